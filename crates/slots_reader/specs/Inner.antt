-- What the functions of the sweep require.
use Rattle.std.specs.Prelude.{◌≡◌, List, ℕ, ◌+◌, ◌*◌, ◌≤◌, ◌<◌, length}
use Rattle.channel.specs.Channel.{unit, layout_symbols}
use Rattle.plan.specs.declared.Plan.{Plan}
use Rattle.slots.specs.Inner.{RunSlots}
use Rattle.slots_places.specs.Inner.{Known}
use Rattle.slots_residues.specs.Inner.{Room}

-- the symbols from `from` on up to `to` are asked about
pub record Seeks (p : Plan) (b : List ℕ) (from to rest : ℕ) (words : List ℕ) : Type 0 where
  pub slots : RunSlots p b
  pub some : from < to
  pub most : to ≤ layout_symbols p.layout
  pub near : to ≤ from + unit p.layout
  pub few : to ≤ from + 1024
  pub room : Room p words
  pub known : Known p b from rest words

-- of the n parts of b, each of as many forties of bytes as there are copies, those from the c-th on, beside forty bytes given
pub record Parts (b given : List ℕ) (copies c n : ℕ) : Type 0 where
  pub copies_least : 1 ≤ copies
  pub order : c ≤ n
  pub room : 40 * (n * copies) ≤ length b
  pub long : length given ≡ 40
