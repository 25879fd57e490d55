use Prim.Native.Nat.{◌≤◌}
use Rattle.pulses_rows.specs.Inner.{Fives}
use Rattle.pulses_rows.proofs.fives.put_fives.Given as goal

abbrev pub invariant-loop-k : goal.invariant-loop-k
invariant-loop-k l = (l.k ≤ 8) × Fives l.initial.row l.at l.k l.w l.row
