use Prim.Native.Nat.{◌+◌, ◌*◌, ◌/◌}
use Rattle.slots_gather.specs.Inner.{symbol_in, Column}
use Rattle.slots_gather.proofs.unpack_byte.Given as goal

abbrev pub invariant-loop-q : goal.invariant-loop-q
invariant-loop-q g l = Column l.initial.row l.at 1 l.q (λ i. symbol_in g.row.M l.words (l.b * (8 / g.row.M) + i)) l.row
