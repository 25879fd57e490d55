use Rattle.transpose.specs.Inner.{Exchanged}
use Rattle.transpose.proofs.exchanged.Given as goal

abbrev pub invariant-loop-i : goal.invariant-loop-i
invariant-loop-i l = Exchanged l.e l.m l.d l.at l.i l.initial.s l.s
