-- The checked parameters are valid.
use mathlib.Core.Path.{sym}
use Rattle.plan.proofs.Laws.Accepted.{entered}
use Rattle.run_reader.proofs.read.Goals as goal

pub block_count-requires : goal.block_count-requires
block_count-requires c = (entered _ _ _ _ c.in_ok-q.q (sym c.in_ok-q.ensures.answer_value) c.in_ok-q.ensures.parameters_value).valid
