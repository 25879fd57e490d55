-- What a search finds, and when it finds nothing.
use mathlib.Core.Bool.{Bool, true}
use mathlib.Core.List.{List, [], ◌∷◌}
use Prim.Native.Nat.{ℕ, ◌^◌, ◌≤◌, ◌<◌}
use mathlib.Core.Path.{◌≡◌, refl}
use native.Mathlib.Omega.{arith}
use native.Mathlib.Nat.{mul-le-mul}
use lib.Dec.{ltb, leb, eqb}
use lib.ListN.{length, get_or}
use borrow.Author.Tests.{ltb-true, leb-true, eqb-true, eq-eqb, lt-ltb, le-ltb, le-leb}
use Rattle.plan.specs.declared.Plan.{Plan}
use Rattle.pattern_search.specs.Starts.{stands, starts, first_mismatch, earliest}
use Rattle.bits.proofs.Laws.Table.{both_true}
use Rattle.answers.specs.Answer.{Done, No, ask}
use Rattle.answers.proofs.Laws.Answer.{then_done, ask_done, ask_yes, ask_no, fits_ask, fits_then}
use Rattle.answers.specs.Inner.{Fits}
use Rattle.header.specs.Header.{fields_of}
use Rattle.header.specs.declared.Fields.{Fields}
use Rattle.header_sizes.specs.Quantities.{marker_bytes}
use Rattle.header_sizes.specs.Inner.{Valid}
use Rattle.header_questions.proofs.Laws.Good.{header_good}
use Rattle.header_questions.specs.Questions.{run_says}
use Rattle.parameters.specs.Parameters.{parameters_of}
use Rattle.header_questions.proofs.Laws.Marks.{run_good, run_fits}
use Rattle.parameters.proofs.Laws.Accepted.{carries_marks}
use Rattle.plan.specs.Plan.{plan_in}
use Rattle.plan.specs.Inner.{Fine}
use Rattle.plan.proofs.Laws.Accepted.{plan_fine}
use Rattle.pulses.specs.Inner.{Sizes}
use Rattle.pulses.proofs.Laws.Needs.{sizes}
use Rattle.bits.specs.Basics.{first_from}
use Rattle.bits.specs.Pack.{bit_at}
use Rattle.pulses.specs.Pulses.{slot_bit}
use Rattle.capture_search.specs.Search.{marker_slots, marker_slot, first_fit_from, capture_most, find_lengths_right, slot_says, find_from_says}

-- whether the whole marker stands at slot x
abbrev pub fits : Plan → List ℕ → ℕ → Bool
fits p b x = stands (marker_slot p) (marker_slots p) b x

-- What the search's answers are, what an acceptance says, and that they fit the number that C gets.

-- ---- question 19

pub slot_yes : (p : Plan) (b : List ℕ) (from : ℕ) → first_fit_from p b from < starts (marker_slots p) b → slot_says p b from ≡ Done
unfolding slot_says
slot_yes p b from l =
    ask_yes (ltb (first_fit_from p b from) (starts (marker_slots p) b)) 19 0 (lt-ltb (first_fit_from p b from) (starts (marker_slots p) b) l)

pub slot_no : (p : Plan) (b : List ℕ) (from : ℕ) → starts (marker_slots p) b ≤ first_fit_from p b from → slot_says p b from ≡ No 19 0
unfolding slot_says
slot_no p b from l =
    ask_no (ltb (first_fit_from p b from) (starts (marker_slots p) b)) 19 0 (le-ltb (first_fit_from p b from) (starts (marker_slots p) b) l)

-- ---- the call

-- what acceptance says
pub record Found (header marker b : List ℕ) (from : ℕ) : Type 0 where
  pub header_is : run_says header marker ≡ Done
  pub marker_is : length marker ≡ marker_bytes (fields_of header)
  pub fine : Fine (plan_in header marker)
  pub most : length b ≤ capture_most
  pub there : first_fit_from (plan_in header marker) b from < starts (marker_slots (plan_in header marker)) b

pub lengths_are : (f : Fields) (m n : ℕ) → find_lengths_right f m n ≡ true → (m ≡ marker_bytes f) × (n ≤ capture_most)
unfolding find_lengths_right
lengths_are f m n e =
    let t = both_true (eqb m (marker_bytes f)) (leb n capture_most) e in
    (eqb-true m (marker_bytes f) t.0, leb-true n capture_most t.1)

pub are_lengths : (f : Fields) (m n : ℕ) → m ≡ marker_bytes f → n ≤ capture_most → find_lengths_right f m n ≡ true
unfolding find_lengths_right
are_lengths f m n em hn = rw (eq-eqb m (marker_bytes f) em, le-leb n capture_most hn) refl

-- a header and its marker symbols make a plan that steps 8 to 10 can follow
pub marker_fine : (header marker : List ℕ) → run_says header marker ≡ Done → Valid (fields_of header) × Fine (plan_in header marker)
unfolding parameters_of
marker_fine header marker e =
    let f : Fields = fields_of header in
    let g = run_good header marker e in
    let h = header_good header g.0 in
    let v : Valid f = h.valid in
    (v, plan_fine f marker (parameters_of f marker) v h.copies (carries_marks f v marker g.1))

pub find_accepted : (header marker b : List ℕ) (from : ℕ) → find_from_says header marker b from ≡ Done → Found header marker b from
unfolding find_from_says slot_says
find_accepted header marker b from e =
    let p : Plan = plan_in header marker in
    let q7 = then_done (run_says header marker) _ e in
    let q8 = then_done (ask (find_lengths_right (fields_of header) (length marker) (length b)) 8 0) (slot_says p b from) q7.1 in
    let t : Bool = find_lengths_right (fields_of header) (length marker) (length b) in
    let l = lengths_are (fields_of header) (length marker) (length b) (ask_done t 8 0 q8.0) in
    let m = marker_fine header marker q7.0 in
    record {
      header_is = q7.0;
      marker_is = l.0;
      fine = m.1;
      most = l.1;
      there = ltb-true (first_fit_from p b from) (starts (marker_slots p) b) (ask_done (ltb (first_fit_from p b from) (starts (marker_slots p) b)) 19 0 q8.1);
    }

-- the answer fits, and so does the slot
pub find_fits : (header marker b : List ℕ) (from : ℕ) → Fits (find_from_says header marker b from)
unfolding find_from_says slot_says
find_fits header marker b from =
    let p : Plan = plan_in header marker in
    let t : Bool = find_lengths_right (fields_of header) (length marker) (length b) in
    let s : Bool = ltb (first_fit_from p b from) (starts (marker_slots p) b) in
    fits_then (run_says header marker) _ (run_fits header marker)
    (λ e. fits_then (ask t 8 0) (ask s 19 0) (fits_ask t 8 0 (omega arith) (omega arith) (λ z. omega arith))
    (λ g. fits_ask s 19 0 (omega arith) (omega arith) (λ z. omega arith)))

-- the sizes of the marker's groups; and its slots are at least one
pub marker_sizes : (p : Plan) → Fine p → Sizes p.order p.group
marker_sizes p fine =
    sizes p.order p.group record {
      bits = p.bits;
      bits_least = fine.bits_least;
      bits_most = fine.bits_most;
      order_is = fine.order_is;
      group_is = fine.group_is;
    }

pub slots_least : (p : Plan) → Fine p → 1 ≤ marker_slots p
slots_least p fine =
    let z = marker_sizes p fine in
    let group : 1 ≤ p.group = omega arith in
    mul-le-mul {n₁ = 1} fine.markers_least group

pub slot_small : (header marker b : List ℕ) (from : ℕ) → find_from_says header marker b from ≡ Done → first_fit_from (plan_in header marker) b from < 2 ^ 56
slot_small header marker b from e =
    let f = find_accepted header marker b from e in
    omega (arith, slots_least (plan_in header marker) f.fine, f.there, f.most)

-- Edges of the search in figures, which antt computes: M = 4, so that a symbol has five slots, and the one marker symbol is 2.

-- in a byte there are four starts
abbrev found_from : ℕ → ℕ → ℕ
found_from byte from = earliest (slot_bit 5 1 (λ w. get_or (2 ∷ []) w 0)) 5 (byte ∷ []) from

abbrev found : ℕ → ℕ
found byte = found_from byte 0

-- 0010 0000, 0001 0000 and 0000 0100 have the marker at slots 0, 1 and 3
pub marker_found : (found 32 ≡ 0) × (found 16 ≡ 1) × (found 4 ≡ 3)
unfolding earliest stands first_mismatch first_from slot_bit bit_at
marker_found = (refl, refl, refl)

-- in 0000 0010 it would need one slot more, in 0010 1000 a guard slot has a pulse
pub none_found : (found 2 ≡ 4) × (found 40 ≡ 4) × (found 0 ≡ 4)
unfolding earliest stands first_mismatch first_from slot_bit bit_at
none_found = (refl, refl, refl)

-- from slot 1 on 0001 0000 still has it, from slot 2 on no more; from slot 4 on, and from the last number of 64 bits on, nothing is tried
pub from_found : (found_from 16 1 ≡ 1) × (found_from 16 2 ≡ 4) × (found_from 16 4 ≡ 4) × (found_from 4 3 ≡ 3) × (found_from 4 18446744073709551615 ≡ 18446744073709551615)
unfolding earliest stands first_mismatch first_from slot_bit bit_at
from_found = (refl, refl, refl, refl, refl)
