-- What the functions on places require, and the words taken in so far.
use Rattle.std.specs.Prelude.{◌≡◌, List, ℕ, ◌+◌, ◌-◌, ◌*◌, ◌/◌, ◌%◌, ◌^◌, ◌≤◌, ◌<◌, ltb, eqb, length, get_or}
use Rattle.bits.specs.Basics.{pick, bool, up_to}
use Rattle.bits.specs.Pack.{bit_at}
use Rattle.channel.specs.Channel.{unit, layout_symbols, place, symbol_of, rest_zero}
use Rattle.channel.specs.Inner.{Put}
use Rattle.plan.specs.declared.Plan.{Plan}
use Rattle.plan.specs.Inner.{Fine}
use Rattle.sizes.specs.Sizes.{word_bits}
use Rattle.slots.specs.Reading.{pooled_in, data_in}
use Rattle.slots_residues.specs.Inner.{Room}
use Rattle.slots_symbols.specs.Inner.{Row}

-- symbols in a row of bytes, of which the first is symbol `base`: those from `from` on up to `to`, no more than a line of them, are asked about
pub record Stretch (p : Plan) (base from to : ℕ) (row : List ℕ) : Type 0 where
  pub fine : Fine p
  pub start : base ≤ from
  pub order : from ≤ to
  pub most : to ≤ layout_symbols p.layout
  pub near : to ≤ from + unit p.layout
  pub room : to ≤ base + length row
  pub small : (i : ℕ) → i < to - base → get_or row i 0 < p.order

-- room for the words, all 0
pub record Cleared (p : Plan) (words : List ℕ) : Type 0 where
  pub room : Room p words
  pub empty : (k : ℕ) → get_or words k 0 ≡ 0

-- symbol q was put into the words if one of theirs goes to place x, `delay` after its own number; otherwise r says whether it is 0
pub record Placed (total m x delay q : ℕ) (before : List ℕ) (r : ℕ) (after : List ℕ) : Type 0 where
  pub hit : delay ≤ x → x - delay < total → (r ≡ 1) × Put (x - delay) m q before after
  pub unhit : (delay ≤ x → x - delay < total → ⊥) → (r ≡ bool (eqb 0 q)) × (after ≡ before)

-- ---- the words, symbol after symbol in the order of the slots: what they hold when the symbols before s were looked at

-- bit y of all words: that of its symbol, where this comes before s, and otherwise 0
unfoldable pub taken_bit : Plan → List ℕ → ℕ → ℕ → ℕ
taken_bit p b s y = pick (ltb (symbol_of p.layout (place p.layout (y / p.bits))) s) (data_in p b (y / p.bits) / 2 ^ (p.bits - 1 - y % p.bits) % 2) 0

-- the words lie back to back, with a byte after them
pub record Took (p : Plan) (b : List ℕ) (s : ℕ) (words : List ℕ) : Type 0 where
  pub room : Room p words
  pub right : (y : ℕ) → y < p.layout.words * word_bits → bit_at words y ≡ taken_bit p b s y

-- what a look at the symbols from `from` on up to `to` tells, whatever slots the row was read from: the first wrong place, or `to`, and where none is wrong the words with them
pub record Tells (p : Plan) (row : List ℕ) (base from to : ℕ) (before : List ℕ) (r : ℕ) (after : List ℕ) : Type 0 where
  pub first : (b : List ℕ) → Row p b base to row → Took p b from before → r ≡ up_to (rest_zero p.layout (pooled_in p b)) from to
  pub took : (b : List ℕ) → Row p b base to row → Took p b from before → to ≤ r → Took p b to after

-- ---- what is known of question 12 then

-- `rest` is the first wrong place, or no place before s is wrong and the words have the symbols before s
pub record Known (p : Plan) (b : List ℕ) (s rest : ℕ) (words : List ℕ) : Type 0 where
  pub order : s ≤ layout_symbols p.layout
  pub most : rest ≤ layout_symbols p.layout
  pub ahead : rest ≡ layout_symbols p.layout → up_to (rest_zero p.layout (pooled_in p b)) s (layout_symbols p.layout) ≡ up_to (rest_zero p.layout (pooled_in p b)) 0 (layout_symbols p.layout)
  pub here : rest < layout_symbols p.layout → rest ≡ up_to (rest_zero p.layout (pooled_in p b)) 0 (layout_symbols p.layout)
  pub took : rest ≡ layout_symbols p.layout → Took p b s words
