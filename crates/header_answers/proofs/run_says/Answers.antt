-- 1 to 7 first, then the lent marker symbols, and where all are answered yes the factor.
use Rattle.std.proofs.Common.{sym, ap, ◌∙◌, arith}
use Rattle.answers.proofs.Laws.Answer.{stops, goes_on, stops_at, goes_past, says_last}
use Rattle.header.specs.declared.Fields.{Fields}
use Rattle.header_questions.specs.Questions.{marks_good, question20, run_says}
use Rattle.header_questions.proofs.Laws.Good.{form_good}
use Rattle.header_answers.proofs.run_says.Goals as goal

pub returns-in_err-form_says : goal.returns-in_err-form_says
unfolding run_says
returns-in_err-form_says c = search (stops, c.in_err-form_says.ensures)

pub read-f-requires : goal.read-f-requires
read-f-requires c = let l = (form_good c.args.header.now (sym c.in_ok-form_says.ensures)).long in omega arith

pub marks_good-requires : goal.marks_good-requires
marks_good-requires c = rw c.read-f.ensures (form_good c.args.header.now (sym c.in_ok-form_says.ensures)).valid

pub returns-in_err-ask : goal.returns-in_err-ask
unfolding run_says
returns-in_err-ask c =
    goes_on _ _ _ c.in_ok-form_says.ensures
    (stops_at _ _ _ _ _ _ _ c.from_residual-in_err-ask.ensures.1 c.in_err-ask.ensures (c.marks_good.ensures ∙ ap (λ (f : Fields). marks_good f c.args.marker.now) c.read-f.ensures))

pub returns : goal.returns
unfolding run_says
returns c =
    goes_on _ _ _ c.in_ok-form_says.ensures
    (goes_past _ _ _ _ _ _ c.in_ok-ask.ensures (c.marks_good.ensures ∙ ap (λ (f : Fields). marks_good f c.args.marker.now) c.read-f.ensures)
    (says_last _ _ _ _ _ c.ask-2.ensures (c.question20.ensures ∙ ap (λ (f : Fields). question20 f) c.read-f.ensures)))
