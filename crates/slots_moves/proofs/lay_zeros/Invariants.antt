use Prim.Native.Nat.{◌-◌, ◌≤◌}
use Rattle.slots_moves.specs.Inner.{Laid}
use Rattle.slots_moves.proofs.lay_zeros.Given as goal

abbrev pub invariant-loop-i : goal.invariant-loop-i
invariant-loop-i l = (l.from ≤ l.i) × (l.i ≤ l.to) × Laid l.zeros l.initial.slots l.from l.i l.slots

abbrev pub decreases-loop-i : goal.decreases-loop-i
decreases-loop-i l = l.to - l.i
