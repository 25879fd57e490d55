use Rattle.word_columns.specs.Inner.{Rolled}
use Rattle.word_columns.proofs.masks.rolled.Given as goal

abbrev pub invariant-loop-x : goal.invariant-loop-x
invariant-loop-x l = Rolled l.x l.initial.mask l.mask
