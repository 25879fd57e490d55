-- What is known of a plan and of the lent lengths once questions 1 to 8 and 20 are answered yes.
use mathlib.Core.Path.{◌≡◌, refl, sym, ◌∙◌}
use mathlib.Core.Bool.{Bool, true}
use mathlib.Core.List.{List}
use Prim.Native.Nat.{ℕ}
use native.Mathlib.Omega.{arith}
use lib.Dec.{eqb}
use lib.ListN.{length}
use borrow.Author.Tests.{eqb-true}
use Rattle.bits.specs.Basics.{both}
use Rattle.bits.proofs.Laws.Table.{both_true}
use Rattle.answers.specs.Answer.{Done, ask}
use Rattle.answers.proofs.Laws.Answer.{then_done, ask_done, fits_ask, fits_then}
use Rattle.answers.specs.Inner.{Fits}
use Rattle.header.specs.Header.{fields_of}
use Rattle.header_sizes.specs.Quantities as quantities
use Rattle.header_sizes.specs.Inner.{Valid, Shaped}
use Rattle.header_sizes.proofs.Laws.Shape.{word_symbols}
use Rattle.header_sizes.proofs.Laws.Bounds as bounds
use Rattle.header_questions.specs.Questions.{run_says, copies_good}
use Rattle.parameters.specs.Parameters.{parameters_of}
use Rattle.header_questions.proofs.Laws.Marks.{run_good, run_fits}
use Rattle.parameters.proofs.Laws.Accepted.{CarriesMarks, carries_marks}
use Rattle.parameters.specs.declared.Parameters.{Parameters}
use Rattle.header_questions.proofs.Laws.Good.{header_good, copies_range}
use Rattle.header.specs.declared.Fields.{Fields}
use Rattle.plan.specs.Plan.{plan_of, plan_in}
use Rattle.plan.specs.Inner.{Fine, slot_bytes, Entered}
use Rattle.plan.specs.Lengths.{run_lengths_right, call_says}

-- the plan of parameters that carry all W marker symbols
pub plan_fine : (f : Fields) (marker : List ℕ) (q : Parameters) → Valid f → copies_good f.copies ≡ true → CarriesMarks f marker q → Fine (plan_of q)
unfolding plan_of quantities.pulse_order quantities.slots_per_symbol quantities.slot_count quantities.symbol_count quantities.layout_of
plan_fine f marker q v g20 c =
    let g : Fields = q.fields in
    let w : Valid g = rw c.fields v in
    let s : Shaped g = w.shaped in
    let k20 = copies_range g.copies (rw c.fields g20) in
    record {
      copies_least = k20.0;
      copies_most = k20.1;
      bits_least = s.bits_least;
      bits_most = s.bits_most;
      order_is = refl;
      group_is = refl;
      symbols_are = word_symbols g s;
      words_least = bounds.blocks_least g w;
      words_most = bounds.blocks_most g w;
      rows_least = s.rows_least;
      rows_most = s.rows_most;
      step_most = s.step_most;
      lines_are = bounds.lines_steps g w;
      markers_least = w.markers_least;
      markers_most = w.markers_most;
      marks_are = c.long;
      marks_below = λ i. rw c.fields (c.below i);
      symbols_bound = bounds.symbol_most g w;
      slots_bound = bounds.once_most g w;
    }

-- the plan has the header's numbers
pub plan_words : (q : Parameters) → (plan_of q).layout.words ≡ quantities.block_count q.fields
unfolding plan_of quantities.layout_of
plan_words q = refl

plan_bytes : (q : Parameters) → slot_bytes (plan_of q) ≡ quantities.slot_bytes q.fields
unfolding plan_of quantities.slot_bytes quantities.slot_count quantities.symbol_count quantities.layout_of
plan_bytes q = refl

-- what the header and the lengths of a call say when they are accepted
pub record Ready (header marker : List ℕ) (frames_length slots_length : ℕ) : Type 0 where
  pub valid : Valid (fields_of header)
  pub fine : Fine (plan_in header marker)
  pub marker_is : length marker ≡ quantities.marker_bytes (fields_of header)
  pub frames_are : frames_length ≡ quantities.frame_bytes (fields_of header)
  pub slots_are : slots_length ≡ slot_bytes (plan_in header marker)

pub ready : (header marker : List ℕ) (n s : ℕ) → call_says header marker n s ≡ Done → Ready header marker n s
unfolding call_says run_lengths_right parameters_of
ready header marker n s e =
    let f : Fields = fields_of header in
    let d = then_done (run_says header marker) (ask (run_lengths_right f (length marker) n s) 8 0) e in
    let g = run_good header marker d.0 in
    let h = header_good header g.0 in
    let v : Valid f = h.valid in
    let t = ask_done (run_lengths_right f (length marker) n s) 8 0 d.1 in
    let a = both_true (eqb (length marker) (quantities.marker_bytes f)) (both (eqb n (quantities.frame_bytes f)) (eqb s (quantities.slot_bytes f))) t in
    let b = both_true (eqb n (quantities.frame_bytes f)) (eqb s (quantities.slot_bytes f)) a.1 in
    let m : length marker ≡ f.markers = eqb-true (length marker) (quantities.marker_bytes f) a.0 in
    record {
      valid = v;
      fine = plan_fine f marker (parameters_of f marker) v h.copies (carries_marks f v marker g.1);
      marker_is = m;
      frames_are = eqb-true n (quantities.frame_bytes f) b.0;
      slots_are = eqb-true s (quantities.slot_bytes f) b.1 ∙ sym (plan_bytes (parameters_of f marker));
    }

-- a call with the same header that is lent slices of the right lengths is let in too
pub let_in : (header marker : List ℕ) (n s m t : ℕ) → call_says header marker n s ≡ Done → m ≡ quantities.frame_bytes (fields_of header) → t ≡ slot_bytes (plan_in header marker)
    → call_says header marker m t ≡ Done
let_in header marker n s m t e em et =
    let r = ready header marker n s e in
    let em' : m ≡ n = em ∙ sym r.frames_are in
    let et' : t ≡ s = et ∙ sym r.slots_are in
    rw (em', et') e

-- the answers of these questions fit the number that C gets
pub call_fits : (header marker : List ℕ) (n s : ℕ) → Fits (call_says header marker n s)
unfolding call_says
call_fits header marker n s =
    let t : Bool = run_lengths_right (fields_of header) (length marker) n s in
    fits_then (run_says header marker) (ask t 8 0) (run_fits header marker) (λ e. fits_ask t 8 0 (omega arith) (omega arith) (λ z. omega arith))

pub entered : (header marker : List ℕ) (n s : ℕ) (q : Parameters) → call_says header marker n s ≡ Done → q ≡ parameters_of (fields_of header) marker → Entered q n s
unfolding parameters_of
entered header marker n s q e eq =
    let r = ready header marker n s e in
    rw eq (record { valid = r.valid; fine = r.fine; frames_are = r.frames_are; slots_are = r.slots_are })
