-- The loan is asked first; the rest is a drop's.
use mathlib.Core.Path.{sym, ◌∙◌}
use Rattle.answers.proofs.Laws.Answer.{refused_as, said_yes}
use Rattle.rack_asked.proofs.Laws.Said.{say_loan, lend_as_drop}
use Rattle.rack_asked.proofs.lend_says.Goals as goal

pub returns-in_err-ask : goal.returns-in_err-ask
returns-in_err-ask c =
    refused_as _ _ _ _ _ _ c.from_residual.ensures.1 c.in_err-ask.ensures (λ no. say_loan _ _ _ _ _ (sym c.loan_right.ensures ∙ no))

pub returns : goal.returns
returns c = c.drop_says.ensures ∙ lend_as_drop _ _ _ _ _ (said_yes _ _ _ _ c.in_ok-ask.ensures c.loan_right.ensures)
