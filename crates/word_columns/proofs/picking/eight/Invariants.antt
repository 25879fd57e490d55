use mathlib.Core.Path.{◌≡◌}
use lib.ListN.{length}
use Rattle.word_columns.proofs.Loops.{Begun}
use Rattle.word_columns.proofs.picking.eight.Given as goal

abbrev pub invariant-loop-t : goal.invariant-loop-t
invariant-loop-t l = (length l.seen ≡ 2160) × Begun l.v l.at l.k l.n l.t l.seen
