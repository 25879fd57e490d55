use Prim.Native.Nat.{◌*◌}
use Rattle.slots_gather.specs.Inner.{cut_from, Column}
use Rattle.slots_gather.proofs.gather_bytes.Given as goal

abbrev pub invariant-loop-k : goal.invariant-loop-k
invariant-loop-k l = Column l.initial.row l.to.from l.to.n (4 * l.k) (cut_from l.words l.cut.at l.cut.step l.cut.shift l.cut.mask) l.row
