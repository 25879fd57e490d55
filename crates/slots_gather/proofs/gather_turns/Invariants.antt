use Prim.Native.Nat.{◌+◌, ◌*◌, ◌/◌}
use Rattle.slots_gather.specs.Inner.{symbol_in, Turned}
use Rattle.slots_gather.proofs.gather_turns.Given as goal

abbrev pub invariant-loop-u : goal.invariant-loop-u
invariant-loop-u g l = Turned l.initial.row l.to.from l.to.n l.to.count (8 / g.row.M) l.u (λ j. symbol_in g.row.M l.words (l.t + j * l.to.n)) l.row
