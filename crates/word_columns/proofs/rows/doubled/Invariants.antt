use mathlib.Core.Path.{◌≡◌}
use Prim.Native.Nat.{◌*◌}
use lib.ListN.{length}
use Rattle.bits.specs.Inner.{Filled}
use Rattle.word_columns.specs.Inner.{doubled_at}
use Rattle.word_columns.proofs.rows.doubled.Given as goal

abbrev pub invariant-loop-m : goal.invariant-loop-m
invariant-loop-m l = (length l.v ≡ 4320) × Filled (doubled_at l.planes) l.v (540 * l.m)
