-- What the functions on symbols require.
use Rattle.std.specs.Prelude.{◌≡◌, List, ℕ, ◌+◌, ◌-◌, ◌<◌, length}
use Rattle.bits.specs.Inner.{Filled}
use Rattle.channel.specs.Channel.{layout_symbols}
use Rattle.plan.specs.Inner.{Fine, slot_bytes}
use Rattle.plan.specs.declared.Plan.{Plan}
use Rattle.slots.specs.Inner.{RunSlots}
use Rattle.slots.specs.Reading.{pooled_in}

-- slots in which each symbol is decided
pub record Grouped (p : Plan) (b : List ℕ) : Type 0 where
  pub fine : Fine p
  pub long : length b ≡ slot_bytes p
  pub passed : (s : ℕ) → s < layout_symbols p.layout → pooled_in p b s < p.order

-- a symbol of slots that is decided
pub record Decided (p : Plan) (b : List ℕ) (s : ℕ) : Type 0 where
  pub slots : RunSlots p b
  pub among : s < layout_symbols p.layout
  pub small : pooled_in p b s < p.order

-- the symbols from `from` on up to `to` are in a row of bytes
pub record Row (p : Plan) (b : List ℕ) (from to : ℕ) (row : List ℕ) : Type 0 where
  pub symbols : Filled (λ i. pooled_in p b (from + i)) row (to - from)
