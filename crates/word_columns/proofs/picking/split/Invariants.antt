use mathlib.Core.Path.{◌≡◌}
use Prim.Native.Nat.{◌*◌}
use lib.ListN.{length}
use Rattle.sizes.specs.Sizes.{word_bits}
use Rattle.bits.specs.Inner.{Filled}
use Rattle.word_columns.specs.Inner.{split_at}
use Rattle.word_columns.proofs.picking.split.Given as goal

abbrev pub invariant-loop-k : goal.invariant-loop-k
invariant-loop-k l = (length l.coded ≡ word_bits) × Filled (split_at l.seen l.mask) l.coded (144 * l.k)
