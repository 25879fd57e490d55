-- 1 to 7 first, and where they are answered yes the factor.
use Rattle.std.proofs.Common.{sym, ap, ◌∙◌, arith}
use Rattle.answers.proofs.Laws.Answer.{stops, goes_on, says_last}
use Rattle.header.specs.declared.Fields.{Fields}
use Rattle.header_questions.specs.Questions.{question20, header_says}
use Rattle.header_questions.proofs.Laws.Good.{form_good}
use Rattle.header_answers.proofs.header_says.Goals as goal

pub returns-in_err-form_says : goal.returns-in_err-form_says
unfolding header_says
returns-in_err-form_says c = search (stops, c.in_err-form_says.ensures)

pub read-requires : goal.read-requires
read-requires c = let l = (form_good c.args.header.now (sym c.in_ok-form_says.ensures)).long in omega arith

pub returns : goal.returns
unfolding header_says
returns c =
    goes_on _ _ _ c.in_ok-form_says.ensures (says_last _ _ _ _ _ c.ask.ensures (c.question20.ensures ∙ ap (λ (f : Fields). question20 f) c.read.ensures))
