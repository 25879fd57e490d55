use Rattle.word_columns.specs.Inner.{Turned}
use Rattle.word_columns.proofs.rows.turned.Given as goal

abbrev pub invariant-loop-x : goal.invariant-loop-x
invariant-loop-x l = Turned l.n l.x l.initial.v l.v
