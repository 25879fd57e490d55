use Rattle.transpose.specs.Inner.{Stage}
use Rattle.transpose.proofs.stage.Given as goal

abbrev pub invariant-loop-k : goal.invariant-loop-k
invariant-loop-k l = Stage l.w l.e l.k l.initial.s l.s
