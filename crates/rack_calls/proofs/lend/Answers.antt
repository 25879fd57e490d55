-- The answer first; then the status is set.
use mathlib.Core.Path.{◌∙◌}
use native.Mathlib.Omega.{arith}
use Rattle.rack_asked.proofs.Laws.Said.{named, area_whole, lent_mission, step_no, step_yes}
use Rattle.rack_calls.proofs.lend.Goals as goal

pub returns-in_err-lend_says-clause-area_after : goal.returns-in_err-lend_says-clause-area_after
returns-in_err-lend_says-clause-area_after c = step_no _ _ _ _ c.in_err-lend_says.ensures

pub overflow_cast-to : goal.overflow_cast-to
overflow_cast-to c = omega (arith, lent_mission _ _ _ _ _ c.in_ok-lend_says.ensures)

pub overflow_add-to : goal.overflow_add-to
overflow_add-to c = omega (arith, lent_mission _ _ _ _ _ c.in_ok-lend_says.ensures)

pub set_status-requires : goal.set_status-requires
set_status-requires c = let done = c.in_ok-lend_says.ensures in (named _ _ done, area_whole _ _ done)

pub returns-clause-area_after : goal.returns-clause-area_after
returns-clause-area_after c = c.set_status.ensures ∙ step_yes _ _ c.in_ok-lend_says.ensures
