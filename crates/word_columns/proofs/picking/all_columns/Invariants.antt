use mathlib.Core.Path.{◌≡◌}
use Prim.Native.Nat.{◌*◌}
use lib.ListN.{length}
use Rattle.word_columns.specs.Inner.{Picked}
use Rattle.word_columns.proofs.picking.all_columns.Given as goal

abbrev pub invariant-loop-k : goal.invariant-loop-k
invariant-loop-k l = (length l.seen ≡ 2160) × Picked l.v l.at (30 * l.k) l.seen
