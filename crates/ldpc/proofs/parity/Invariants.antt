use mathlib.Core.Path.{◌≡◌}
use Rattle.ldpc.proofs.Rows.{Rows, parity_of}
use Rattle.ldpc.proofs.parity.Given as goal

abbrev pub invariant-loop-i : goal.invariant-loop-i
invariant-loop-i l = Rows l.row-items × (l.p ≡ parity_of l.frame l.i)
