-- The code of the answer and of its slot, which fit.
use mathlib.Core.Path.{◌∙◌}
use Rattle.answers.proofs.Laws.Answer.{given_is, fits_given}
use Rattle.capture_search.proofs.Laws.Search.{find_fits}
use Rattle.c_calls.proofs.Given.{slot_fits}
use Rattle.c_calls.proofs.mahyrei_run_find.Goals as goal

pub code_with-requires : goal.code_with-requires
code_with-requires c =
    let a = c.args in
    let r = c.find in
    fits_given r.result _ r.ensures.answer_value (find_fits a.header.now a.marker.now a.capture.now 0)
    (slot_fits a.header.now a.marker.now a.capture.now 0 r.result r.ensures.answer_value r.ensures.slot_value)

pub returns : goal.returns
returns c = c.code_with.ensures ∙ given_is c.find.result _ _ c.find.ensures.answer_value c.find.ensures.slot_value
