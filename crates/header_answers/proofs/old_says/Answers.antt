-- The old question 1 gives the eight bytes that the fields are read from.
use Rattle.std.proofs.Common.{ap, ◌∙◌}
use Rattle.answers.proofs.Laws.Answer.{stops_at, goes_past, said_yes}
use Rattle.header_questions.proofs.Said.{old_long}
use Rattle.header_questions.specs.Questions.{fields_say, old_says}
use Rattle.header_answers.proofs.old_says.Goals as goal

pub returns-in_err-ask : goal.returns-in_err-ask
unfolding old_says
returns-in_err-ask c = search (stops_at, c.in_err-ask.ensures)

pub read-requires : goal.read-requires
read-requires c = old_long c.args.old.now (search (said_yes, c.in_ok-ask.ensures))

pub returns : goal.returns
unfolding old_says
returns c = goes_past _ _ _ _ _ _ c.in_ok-ask.ensures c.old_question1.ensures (c.fields_say.ensures ∙ ap fields_say c.read.ensures)
