-- Where no start is left the marker stands at none; elsewhere it stands at the slot that is found, or at none.
use mathlib.Core.Path.{sym}
use native.Mathlib.Omega.{arith}
use borrow.Author.Tests.{ltb-true, ltb-false, leb-false}
use Rattle.answers.proofs.Laws.Answer.{refused_as, ask_done}
use Rattle.capture_search.proofs.Laws.Search.{slot_yes, slot_no}
use Rattle.capture_marker.proofs.Pulses.{slots_most, none_left}
use Rattle.capture_find.proofs.seek.Goals as goal

pub overflow_mul-n : goal.overflow_mul-n
overflow_mul-n c = let s = c in omega (arith, slots_most s.args.p s.requires.0)

pub returns-in_err-ask-clause-answer_value : goal.returns-in_err-ask-clause-answer_value
returns-in_err-ask-clause-answer_value c =
    let a = c.args in
    refused_as _ _ _ _ _ _ c.from_residual.ensures.1 c.in_err-ask.ensures (λ no. (none_left a.p a.b.now a.from (let l = leb-false _ _ no in omega arith)).0)

pub returns-in_err-ask-2-clause-answer_value : goal.returns-in_err-ask-2-clause-answer_value
returns-in_err-ask-2-clause-answer_value c =
    let a = c.args in
    refused_as _ _ _ _ _ _ c.from_residual-in_err-ask-2.ensures.1 c.in_err-ask-2.ensures (λ no. (none_left a.p a.b.now a.from (let l = ltb-false _ _ no in omega arith)).0)

pub returns-in_err-ask-3-clause-answer_value : goal.returns-in_err-ask-3-clause-answer_value
returns-in_err-ask-3-clause-answer_value c =
    let a = c.args in
    let e = c.first_fit-slot.ensures in
    refused_as _ _ _ _ _ _ c.from_residual-in_err-ask-3.ensures.1 c.in_err-ask-3.ensures
    (λ no. sym (slot_no a.p a.b.now a.from (let l = ltb-false _ _ no in omega arith)))

pub returns-clause-answer_value : goal.returns-clause-answer_value
returns-clause-answer_value c =
    let a = c.args in
    let e = c.first_fit-slot.ensures in
    let l = ltb-true _ _ (ask_done _ 19 0 (sym c.in_ok-ask-3.ensures)) in
    sym (slot_yes a.p a.b.now a.from (omega arith))
