use Prim.Native.Nat.{◌-◌, ◌≤◌}
use Rattle.pool.specs.Pooled.{count}
use Rattle.pool.proofs.Front.{Front}
use Rattle.pool.proofs.counts.counted.Given as goal

abbrev pub invariant-loop-r : goal.invariant-loop-r
invariant-loop-r l = (l.r ≤ l.group) × Front (count l.b l.copies l.group l.s) l.group l.r l.top l.q

abbrev pub decreases-loop-r : goal.decreases-loop-r
decreases-loop-r l = l.group - l.r
