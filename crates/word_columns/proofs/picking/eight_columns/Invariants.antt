use mathlib.Core.Path.{◌≡◌}
use Prim.Native.Nat.{◌+◌, ◌*◌}
use lib.ListN.{length}
use Rattle.word_columns.specs.Inner.{Picked}
use Rattle.word_columns.proofs.picking.eight_columns.Given as goal

abbrev pub invariant-loop-n : goal.invariant-loop-n
invariant-loop-n l = (length l.seen ≡ 2160) × Picked l.v l.at (30 * l.k + l.n) l.seen
