use mathlib.Core.Path.{◌≡◌}
use Rattle.bits.specs.Basics.{up_to}
use Rattle.header_questions.specs.Questions.{below}
use Rattle.header_marks.proofs.marks_good.Given as goal

abbrev pub invariant-loop-i : goal.invariant-loop-i
invariant-loop-i l = up_to (below l.order l.marker) l.i l.n ≡ up_to (below l.order l.marker) 0 l.n
