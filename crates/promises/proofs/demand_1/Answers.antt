-- Proved where its statements are.
use Rattle.promises_terms.proofs.AnswersHold.{answers}
use Rattle.promises_headers.proofs.QuestionsHold.{questions}
use Rattle.promises_calls.proofs.Demand1.{demand_1}
use Rattle.promises.proofs.demand_1.Goals as goal

pub returns : goal.returns
returns c = (answers, questions, demand_1)
