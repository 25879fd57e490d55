use Prim.Native.Nat.{◌+◌, ◌*◌}
use Rattle.slots_gather.specs.Inner.{symbol_in, Column}
use Rattle.slots_gather.proofs.gather_fields.Given as goal

abbrev pub invariant-loop-j : goal.invariant-loop-j
invariant-loop-j l = Column l.initial.row l.to.from l.to.n l.j (λ k. symbol_in l.m l.words (l.t + k * l.to.n)) l.row
