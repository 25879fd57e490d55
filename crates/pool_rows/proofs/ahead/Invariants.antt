use Prim.Native.Nat.{◌-◌}
use Rattle.pool.specs.Pooled.{pooled}
use Rattle.pulses_rows.specs.Inner.{Reached}
use Rattle.pool_rows.proofs.ahead.Given as goal

abbrev pub invariant-loop-s : goal.invariant-loop-s
invariant-loop-s l = Reached l.order (pooled l.b l.copies l.group l.order) l.initial.row l.from l.to l.s l.row

abbrev pub decreases-loop-s : goal.decreases-loop-s
decreases-loop-s l = l.to - l.s
