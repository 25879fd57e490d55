-- The questions put to a header, one after another: the first no is the answer, so they need no brackets.
use mathlib.Core.Path.{◌≡◌, ap, ◌∙◌}
use mathlib.Core.Bool.{Bool}
use mathlib.Core.List.{List}
use Prim.Native.Nat.{ℕ}
use Rattle.header.specs.Header.{fields_of}
use Rattle.header.specs.declared.Fields.{Fields}
use Rattle.answers.specs.Answer.{Answer, ask, then}
use Rattle.answers.proofs.Laws.Answer.{then_then}
use Rattle.header_questions.specs.Questions.{question1, question2, question3, question4, question5, question6, question7, question20, fields_say, form_says, header_says}

-- 1, of ten bytes or of eight, then 2 to 7, and whatever is asked after them
pub asks_on : (one : Bool) (f : Fields) (rest : Answer)
    → then (then (ask one 1 0) (fields_say f)) rest
    ≡ then (ask one 1 0)
    (then (ask (question2 f) 2 0)
    (then (ask (question3 f) 3 0)
    (then (ask (question4 f) 4 0)
    (then (ask (question5 f) 5 0)
    (then (ask (question6 f) 6 0)
    (then (ask (question7 f) 7 0)
    rest))))))
unfolding fields_say
asks_on one f rest =
    then_then (ask one 1 0) _ rest
    ∙ ap (then (ask one 1 0)) (then_then (ask (question2 f) 2 0) _ rest
    ∙ ap (then (ask (question2 f) 2 0)) (then_then (ask (question3 f) 3 0) _ rest
    ∙ ap (then (ask (question3 f) 3 0)) (then_then (ask (question4 f) 4 0) _ rest
    ∙ ap (then (ask (question4 f) 4 0)) (then_then (ask (question5 f) 5 0) _ rest
    ∙ ap (then (ask (question5 f) 5 0)) (then_then (ask (question6 f) 6 0) (ask (question7 f) 7 0) rest)))))

-- all that are put to a header alone
pub header_asks : (header : List ℕ)
    → header_says header
    ≡ then (ask (question1 header) 1 0)
    (then (ask (question2 (fields_of header)) 2 0)
    (then (ask (question3 (fields_of header)) 3 0)
    (then (ask (question4 (fields_of header)) 4 0)
    (then (ask (question5 (fields_of header)) 5 0)
    (then (ask (question6 (fields_of header)) 6 0)
    (then (ask (question7 (fields_of header)) 7 0)
    (ask (question20 (fields_of header)) 20 0)))))))
unfolding header_says form_says
header_asks header = asks_on (question1 header) (fields_of header) (ask (question20 (fields_of header)) 20 0)
