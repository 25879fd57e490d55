use mathlib.Core.Path.{◌≡◌}
use Prim.Native.Nat.{◌*◌}
use lib.ListN.{length}
use Rattle.bits.specs.Inner.{Filled}
use Rattle.word_columns.specs.Inner.{mixed_at}
use Rattle.word_columns.proofs.mixing.all_lines.Given as goal

abbrev pub invariant-loop-n : goal.invariant-loop-n
invariant-loop-n l = (length l.v ≡ 4320) × Filled (mixed_at l.coded l.mask) l.v (144 * l.n)
