-- Questions 1 to 7 and 20 by the header's check, then 8, then 19.
use mathlib.Core.Path.{◌≡◌, sym, ap, ◌∙◌}
use mathlib.Core.Bool.{Bool, true}
use mathlib.Core.List.{List}
use Prim.Native.Nat.{ℕ, ◌≤◌}
use lib.ListN.{length}
use Rattle.answers.specs.Answer.{Done}
use Rattle.answers.proofs.Laws.Answer.{stops, goes_on, stops_at, goes_past, ask_done}
use Rattle.std.proofs.lemmas.Result.{IfOk-weaker}
use Rattle.header.specs.Header.{fields_of}
use Rattle.header_sizes.specs.Inner.{Valid}
use Rattle.header_questions.specs.Questions.{run_says}
use Rattle.parameters.specs.Parameters.{parameters_of}
use Rattle.parameters.specs.declared.Parameters.{Parameters}
use Rattle.plan.specs.declared.Plan.{Plan}
use Rattle.plan.specs.Plan.{plan_of}
use Rattle.plan.specs.Inner.{Fine}
use Rattle.capture_search.proofs.Laws.Search.{lengths_are, marker_fine}
use Rattle.capture_search.specs.Search.{first_fit_from, capture_most, find_lengths_right, slot_says, find_from_says}
use Rattle.capture_find.proofs.find.Goals as goal

-- what the header's check found
module _ (header marker b : List ℕ) (done : Done ≡ run_says header marker) (q : Parameters) (e : q ≡ parameters_of (fields_of header) marker) (t : Bool)
    (l : t ≡ find_lengths_right q.fields (length marker) (length b)) where
  lengths : t ≡ find_lengths_right (fields_of header) (length marker) (length b)
  unfolding parameters_of
  lengths = l ∙ ap (λ (q : Parameters). find_lengths_right q.fields (length marker) (length b)) e

  ready : t ≡ true → Valid q.fields × Fine (plan_of q) × (length b ≤ capture_most)
  unfolding parameters_of
  ready lent =
      let r = lengths_are (fields_of header) (length marker) (length b) (sym lengths ∙ lent) in
      let m = marker_fine header marker (sym done) in
      rw e (m.0, m.1, r.1)

pub returns-in_err-parameters-clause-answer_value : goal.returns-in_err-parameters-clause-answer_value
unfolding find_from_says
returns-in_err-parameters-clause-answer_value c = stops _ _ _ _ c.from_residual.ensures.1 c.in_err-parameters.ensures.answer_value

pub returns-in_err-ask-clause-answer_value : goal.returns-in_err-ask-clause-answer_value
unfolding find_from_says
returns-in_err-ask-clause-answer_value c =
    let a = c.args in
    let k = c.in_ok-parameters in
    let l = c.find_lengths_right-lengths in
    goes_on _ _ _ k.ensures.answer_value
    (stops_at _ _ _ _ _ _ _ c.from_residual-in_err-ask.ensures.1 c.in_err-ask.ensures
    (lengths a.header.now a.marker.now a.capture.now k.ensures.answer_value k.parameters k.ensures.parameters_value l.result l.ensures))

pub plan_of-requires : goal.plan_of-requires
plan_of-requires c =
    let a = c.args in
    let k = c.in_ok-parameters in
    let l = c.find_lengths_right-lengths in
    (ready a.header.now a.marker.now a.capture.now k.ensures.answer_value k.parameters k.ensures.parameters_value l.result l.ensures
    (ask_done l.result 8 0 (sym c.in_ok-ask.ensures))).0

pub seek-requires : goal.seek-requires
seek-requires c =
    let a = c.args in
    let k = c.in_ok-parameters in
    let l = c.find_lengths_right-lengths in
    let r = ready a.header.now a.marker.now a.capture.now k.ensures.answer_value k.parameters k.ensures.parameters_value l.result l.ensures
    (ask_done l.result 8 0 (sym c.in_ok-ask.ensures)) in
    (rw c.plan_of.ensures r.1, r.2)

pub returns-clause-answer_value : goal.returns-clause-answer_value
unfolding find_from_says
returns-clause-answer_value c =
    let a = c.args in
    let k = c.in_ok-parameters in
    let l = c.find_lengths_right-lengths in
    goes_on _ _ _ k.ensures.answer_value
    (goes_past _ _ _ _ _ _ c.in_ok-ask.ensures
    (lengths a.header.now a.marker.now a.capture.now k.ensures.answer_value k.parameters k.ensures.parameters_value l.result l.ensures)
    (c.seek.ensures.answer_value ∙ ap (λ (p : Plan). slot_says p a.capture.now a.from) (c.plan_of.ensures ∙ ap plan_of k.ensures.parameters_value)))

pub returns-clause-slot_value : goal.returns-clause-slot_value
returns-clause-slot_value c =
    let a = c.args in
    let plan = c.plan_of.ensures ∙ ap plan_of c.in_ok-parameters.ensures.parameters_value in
    IfOk-weaker c.seek.result _ _ (λ slot e. e ∙ ap (λ (p : Plan). first_fit_from p a.capture.now a.from) plan) c.seek.ensures.slot_value
