use Rattle.slots_gather.specs.Inner.{cut_from, Column}
use Rattle.slots_gather.proofs.gather_some.Given as goal

abbrev pub invariant-loop-j : goal.invariant-loop-j
invariant-loop-j l = Column l.initial.row l.to.from l.to.n l.j (cut_from l.words l.cut.at l.cut.step l.cut.shift l.cut.mask) l.row
