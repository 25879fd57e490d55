use Prim.Native.Nat.{◌+◌, ◌*◌, ◌/◌}
use Rattle.slots_gather.specs.Inner.{symbol_in, Column}
use Rattle.slots_gather.proofs.unpack.Given as goal

abbrev pub invariant-loop-i : goal.invariant-loop-i
invariant-loop-i g l = Column l.initial.row l.at 1 (8 / g.row.M * l.i) (λ j. symbol_in g.row.M l.words (l.b * (8 / g.row.M) + j)) l.row
