use mathlib.Core.Path.{◌≡◌}
use Prim.Native.Nat.{ℕ, ◌+◌, ◌*◌, ◌<◌}
use lib.ListN.{length, get_or}
use Rattle.sizes.specs.Sizes.{word_bits}
use Rattle.word_columns.specs.Inner.{split_at}
use Rattle.word_columns.proofs.picking.two_lines.Given as goal

abbrev pub invariant-loop-y : goal.invariant-loop-y
invariant-loop-y l = (length l.coded ≡ word_bits) × ((x : ℕ) → x < 144 * l.k + l.y → get_or l.coded x 0 ≡ split_at l.seen l.mask x)
