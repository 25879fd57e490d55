-- Each answer is that of the first question answered no; the ones before it were answered yes.
use Rattle.answers.proofs.Laws.Answer.{stops_at, goes_past, said_yes, says_last}
use Rattle.header_questions.proofs.Laws.Good.{shaped_by}
use Rattle.header_questions.specs.Questions.{fields_say}
use Rattle.header_answers.proofs.fields_say.Goals as goal

pub returns-in_err-ask : goal.returns-in_err-ask
unfolding fields_say
returns-in_err-ask c = search (stops_at, c.in_err-ask.ensures)

pub returns-in_err-ask-2 : goal.returns-in_err-ask-2
unfolding fields_say
returns-in_err-ask-2 c = search (stops_at, goes_past, c.in_ok-ask.ensures, c.in_err-ask-2.ensures)

pub returns-in_err-ask-3 : goal.returns-in_err-ask-3
unfolding fields_say
returns-in_err-ask-3 c = search (stops_at, goes_past, c.in_ok-ask.ensures, c.in_ok-ask-2.ensures, c.in_err-ask-3.ensures)

pub question5-requires : goal.question5-requires
question5-requires c =
    shaped_by c.args.f (search (said_yes, c.in_ok-ask-2.ensures)) (search (said_yes, c.in_ok-ask-3.ensures))

pub returns-in_err-ask-4 : goal.returns-in_err-ask-4
unfolding fields_say
returns-in_err-ask-4 c = search (stops_at, goes_past, c.in_ok-ask.ensures, c.in_ok-ask-2.ensures, c.in_ok-ask-3.ensures, c.in_err-ask-4.ensures)

pub returns-in_err-ask-5 : goal.returns-in_err-ask-5
unfolding fields_say
returns-in_err-ask-5 c = search (stops_at, goes_past, c.in_ok-ask.ensures, c.in_ok-ask-2.ensures, c.in_ok-ask-3.ensures, c.in_ok-ask-4.ensures, c.in_err-ask-5.ensures)

pub returns : goal.returns
unfolding fields_say
returns c = search (says_last, goes_past, c.in_ok-ask.ensures, c.in_ok-ask-2.ensures, c.in_ok-ask-3.ensures, c.in_ok-ask-4.ensures, c.in_ok-ask-5.ensures) depth 8
