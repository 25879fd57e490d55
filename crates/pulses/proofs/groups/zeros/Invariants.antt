use Prim.Native.Nat.{◌-◌}
use Rattle.pulses.proofs.Laying.{Upto}
use Rattle.pulses.proofs.groups.zeros.Given as goal

abbrev pub invariant-loop-x : goal.invariant-loop-x
invariant-loop-x l = Upto l.group l.x l.slots

abbrev pub decreases-loop-x : goal.decreases-loop-x
decreases-loop-x l = 320 - l.x
