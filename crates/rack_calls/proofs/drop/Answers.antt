-- The answer first; then the entry is cleared.
use mathlib.Core.Path.{refl, sym, ◌∙◌}
use Rattle.answers.proofs.Laws.Answer.{left}
use Rattle.rack_asked.proofs.Laws.Said.{named, area_whole, step_no, step_yes}
use Rattle.rack_calls.proofs.drop.Goals as goal

pub returns-in_err-drop_says-clause-area_after : goal.returns-in_err-drop_says-clause-area_after
returns-in_err-drop_says-clause-area_after c = step_no _ _ _ _ c.in_err-drop_says.ensures

pub set_entry-requires : goal.set_entry-requires
set_entry-requires c =
    let done = c.in_ok-drop_says.ensures in
    (named _ _ done, area_whole _ _ done, refl)

pub returns-clause-area_after : goal.returns-clause-area_after
returns-clause-area_after c = c.set_entry.ensures ∙ step_yes _ _ c.in_ok-drop_says.ensures
