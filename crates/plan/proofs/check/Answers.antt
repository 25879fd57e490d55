-- Questions 1 to 7 and 20 by the header's check, then 8.
use mathlib.Core.Path.{◌≡◌, sym, ap, ◌∙◌}
use mathlib.Core.Bool.{Bool}
use mathlib.Core.List.{List}
use Prim.Native.Nat.{ℕ, ◌≤◌}
use lib.ListN.{length}
use Rattle.answers.specs.Answer.{Done}
use Rattle.answers.proofs.Laws.Answer.{left, stops, goes_on, says_last}
use Rattle.header.specs.Header.{fields_of}
use Rattle.header.specs.declared.Fields.{Fields}
use Rattle.header_questions.specs.Questions.{run_says}
use Rattle.header_questions.proofs.Laws.Good.{header_good, copies_range}
use Rattle.header_questions.proofs.Laws.Marks.{run_good}
use Rattle.header_sizes.specs.Inner.{Valid}
use Rattle.parameters.specs.Parameters.{parameters_of}
use Rattle.parameters.specs.declared.Parameters.{Parameters}
use Rattle.plan.specs.Lengths.{run_lengths_right, call_says}
use Rattle.plan.proofs.check.Goals as goal

-- the parameters of an accepted header have its fields, which are valid
module _ (header marker : List ℕ) (q : Parameters) (e : q ≡ parameters_of (fields_of header) marker) where
  fields-are : q.fields ≡ fields_of header
  unfolding parameters_of
  fields-are = ap (λ (q : Parameters). q.fields) e

  fields_valid : Done ≡ run_says header marker → Valid q.fields × (q.fields.copies ≤ 32)
  fields_valid done =
      let h = header_good header (run_good header marker (sym done)).0 in
      rw fields-are (h.valid, (copies_range (fields_of header).copies h.copies).1)

  lengths_asked : (n s : ℕ) (said : Bool) → said ≡ run_lengths_right q.fields (length marker) n s → said ≡ run_lengths_right (fields_of header) (length marker) n s
  lengths_asked n s said l = l ∙ ap (λ (f : Fields). run_lengths_right f (length marker) n s) fields-are

pub returns-in_err-parameters-clause-answer_value : goal.returns-in_err-parameters-clause-answer_value
unfolding call_says
returns-in_err-parameters-clause-answer_value c = stops _ _ _ _ c.from_residual.ensures.1 c.in_err-parameters.ensures.answer_value

pub run_lengths_right-lengths-requires : goal.run_lengths_right-lengths-requires
run_lengths_right-lengths-requires c =
    let k = c.in_ok-parameters in
    fields_valid c.args.header.now c.args.marker.now k.parameters k.ensures.parameters_value k.ensures.answer_value

pub returns-in_err-ask-clause-answer_value : goal.returns-in_err-ask-clause-answer_value
unfolding call_says
returns-in_err-ask-clause-answer_value c =
    let a = c.args in
    let k = c.in_ok-parameters in
    goes_on _ _ _ k.ensures.answer_value
    (says_last _ _ _ _ _ (left _ _ c.from_residual-in_err-ask.ensures.1 ∙ c.in_err-ask.ensures)
    (lengths_asked a.header.now a.marker.now k.parameters k.ensures.parameters_value a.frames_length a.slots_length _ c.run_lengths_right-lengths.ensures))

pub returns-clause-answer_value : goal.returns-clause-answer_value
unfolding call_says
returns-clause-answer_value c =
    let a = c.args in
    let k = c.in_ok-parameters in
    goes_on _ _ _ k.ensures.answer_value
    (says_last _ _ _ _ _ c.in_ok-ask.ensures
    (lengths_asked a.header.now a.marker.now k.parameters k.ensures.parameters_value a.frames_length a.slots_length _ c.run_lengths_right-lengths.ensures))
