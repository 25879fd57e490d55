-- The earliest slot at which the marker stands, in the words of the promise.
use mathlib.Core.Path.{◌≡◌, refl, sym, ap, ◌∙◌}
use mathlib.Core.Bool.{Bool, true, false}
use mathlib.Core.List.{List}
use mathlib.Core.Logic.{⊎_elim}
use Prim.Native.Nat.{ℕ, ◌+◌, ◌*◌, ◌/◌, ◌%◌, ◌≤◌, ◌<◌}
use native.Mathlib.Omega.{arith}
use native.Mathlib.Nat.{mod-lt, div-add-mod', div-lt_iff_lt-mul}
use lib.Arith.{digits_lt}
use lib.Dec.{eqb}
use lib.ListN.{length, get_or}
use Rattle.bits.specs.Basics.{bool}
use Rattle.bits.proofs.Laws.Choice.{lt_or_le}
use Rattle.bits.proofs.Laws.Table.{true_false}
use Rattle.bits.specs.Pack.{bit_at}
use Rattle.answers.specs.Answer.{Answer, Done, No, number_of, ask, then}
use Rattle.answers.proofs.Laws.Answer.{ask_done, no_done}
use Rattle.header.specs.Header.{fields_of}
use Rattle.header.specs.declared.Fields.{Fields}
use Rattle.header_sizes.specs.Quantities.{pulse_order, slots_per_symbol, marker_bytes, layout_of}
use Rattle.header_sizes.specs.Inner.{Valid}
use Rattle.header_sizes.proofs.Laws.Shape.{group_least}
use Rattle.header_questions.specs.Questions.{question1, question2, question3, question4, question5, question6, question7, question20, fields_say, form_says, marks_good, run_says, lent_marks}
use Rattle.parameters.specs.Parameters.{parameters_of}
use Rattle.header_questions.proofs.Laws.Marks.{run_good, lent_all}
use Rattle.parameters.proofs.Laws.Accepted.{carries_marks}
use Rattle.plan.specs.declared.Plan.{Plan}
use Rattle.plan.specs.Plan.{plan_of, plan_in}
use Rattle.pulses.proofs.Laws.Pulses.{slot_in}
use Rattle.pattern_search.specs.Starts.{starts}
use Rattle.pattern_search.proofs.Laws.Starts.{stands_all, all_stands, none_earlier, earliest_least, earliest_stands, found_earliest}
use Rattle.capture_search.specs.Search.{marker_slots, marker_slot, first_fit_from, first_fit, capture_most, find_lengths_right, slot_says, find_from_says, find_says, MarkerAt}
use Rattle.capture_search.proofs.Laws.Search.{fits, slot_yes, slot_no, lengths_are, are_lengths, marker_fine, find_accepted, slots_least}

-- ---- the marker of the plan is that of the header

pub record Lent (header marker : List ℕ) : Type 0 where
  pub group_is : (plan_in header marker).group ≡ slots_per_symbol (fields_of header)
  pub markers_are : (plan_in header marker).layout.markers ≡ (fields_of header).markers
  pub marks_are : (w : ℕ) → w < (fields_of header).markers → get_or (plan_in header marker).marks w 0 ≡ get_or marker w 0
  pub marks_below : (w : ℕ) → w < (fields_of header).markers → get_or marker w 0 < pulse_order (fields_of header)
  pub group_some : 1 ≤ slots_per_symbol (fields_of header)

module _ (header marker : List ℕ) (e : run_says header marker ≡ Done) (m : length marker ≡ marker_bytes (fields_of header)) where
  pub lent : Lent header marker
  unfolding plan_of parameters_of layout_of
  lent =
      let f : Fields = fields_of header in
      let g = run_good header marker e in
      let v : Valid f = (marker_fine header marker e).0 in
      let c = carries_marks f v marker g.1 in
      let all : lent_marks f marker ≡ f.markers = lent_all f marker m in
      record {
        group_is = refl;
        markers_are = refl;
        marks_are = λ w l. c.lent w (omega arith);
        marks_below = λ w l. let s = c.lent w (omega arith) in let b = c.below w in omega arith;
        group_some = let z = group_least f v.shaped in omega arith;
      }

  -- slot r of symbol w
  slot_due : (w r : ℕ) → w < (fields_of header).markers → r < slots_per_symbol (fields_of header)
      → marker_slot (plan_in header marker) (w * slots_per_symbol (fields_of header) + r) ≡ bool (eqb r (get_or marker w 0))
  slot_due w r lw lr =
      let p : Plan = plan_in header marker in
      let k = lent in
      let g : p.group ≡ slots_per_symbol (fields_of header) = k.group_is in
      ap (λ (n : ℕ). marker_slot p (w * n + r)) (sym g)
      ∙ slot_in p.group p.layout.markers (λ w. get_or p.marks w 0) w r (rw g lr) (rw k.markers_are lw)
      ∙ ap (λ (q : ℕ). bool (eqb r q)) (k.marks_are w lw)

  size_is : marker_slots (plan_in header marker) ≡ (fields_of header).markers * slots_per_symbol (fields_of header)
  size_is = let k = lent in rw (k.group_is, k.markers_are) refl

  -- what is found stands there
  pub fits_marker : (b : List ℕ) (x : ℕ) → x < starts (marker_slots (plan_in header marker)) b → fits (plan_in header marker) b x ≡ true
      → MarkerAt header marker b x
  fits_marker b x l t =
      let p : Plan = plan_in header marker in
      let n = size_is in
      record {
        inside = omega arith;
        slot = λ w r lw lr.
            let i : ℕ = w * slots_per_symbol (fields_of header) + r in
            let h : i < (fields_of header).markers * slots_per_symbol (fields_of header) = digits_lt lw lr in
            stands_all (marker_slot p) (marker_slots p) b x t i (omega arith) ∙ slot_due w r lw lr;
      }

  -- and what stands there is found
  pub marker_fits : (b : List ℕ) (x : ℕ) → MarkerAt header marker b x
      → (x < starts (marker_slots (plan_in header marker)) b) × (fits (plan_in header marker) b x ≡ true)
  marker_fits b x at =
      let p : Plan = plan_in header marker in
      let g : ℕ = slots_per_symbol (fields_of header) in
      let n = size_is in
      let some : 0 < g = lent.group_some in
      let inside = at.inside in (
        omega arith,
        all_stands (marker_slot p) (marker_slots p) b x (λ i l.
            let d : i / g * g + i % g ≡ i = div-add-mod' i g in
            let q : i / g < (fields_of header).markers = (div-lt_iff_lt-mul some).1 (omega arith) in
            let r : i % g < g = mod-lt i some in
            ap (λ (k : ℕ). bit_at b (x + k)) (sym d) ∙ at.slot (i / g) (i % g) q r ∙ sym (slot_due (i / g) (i % g) q r) ∙ ap (marker_slot p) d),
      )

-- ---- the answers

-- a test that is not true
refuted : (t : Bool) → (t ≡ true → ⊥) → t ≡ false
refuted true n = absurd (n refl)
refuted false n = refl

-- The slot of an acceptance is the earliest, from the given one on, at which the whole marker stands.
pub earliest_from : (header marker b : List ℕ) (from : ℕ) → find_from_says header marker b from ≡ Done
    → (from ≤ first_fit_from (plan_in header marker) b from)
    × MarkerAt header marker b (first_fit_from (plan_in header marker) b from)
    × ((x : ℕ) → from ≤ x → x < first_fit_from (plan_in header marker) b from → MarkerAt header marker b x → ⊥)
earliest_from header marker b from e =
    let p : Plan = plan_in header marker in
    let f = find_accepted header marker b from e in (
      earliest_least (marker_slot p) (marker_slots p) b from,
      fits_marker header marker f.header_is f.marker_is b (first_fit_from p b from) f.there
          (earliest_stands (marker_slot p) (marker_slots p) b from f.there),
      λ x a l at.
          let here = marker_fits header marker f.header_is f.marker_is b x at in
          true_false (fits p b x) here.1 (none_earlier (marker_slot p) (marker_slots p) b from x a l),
    )

-- Where it stands at a slot and at none before, that slot is the answer.
pub found_from : (header marker b : List ℕ) (from : ℕ) → run_says header marker ≡ Done → length marker ≡ marker_bytes (fields_of header)
    → length b ≤ capture_most
    → (s : ℕ) → from ≤ s → MarkerAt header marker b s → ((x : ℕ) → from ≤ x → x < s → MarkerAt header marker b x → ⊥)
    → (find_from_says header marker b from ≡ Done) × (first_fit_from (plan_in header marker) b from ≡ s)
unfolding find_from_says
found_from header marker b from e m h s a at none =
    let p : Plan = plan_in header marker in
    let here = marker_fits header marker e m b s at in
    let found : first_fit_from p b from ≡ s = found_earliest (marker_slot p) (marker_slots p) b from s a here.0 here.1 (λ x c l.
    refuted (fits p b x) (λ t. none x c l (fits_marker header marker e m b x (omega (arith, here.0)) t))) in
    let yes : slot_says p b from ≡ Done = slot_yes p b from (rw found here.0) in
    (rw (e, are_lengths (fields_of header) (length marker) (length b) m h) yes, found)

-- From a slot between the given one and the answer the answer is the same.
pub found_between : (header marker b : List ℕ) (from : ℕ) → find_from_says header marker b from ≡ Done
    → (x : ℕ) → from ≤ x → x ≤ first_fit_from (plan_in header marker) b from
    → (find_from_says header marker b x ≡ Done) × (first_fit_from (plan_in header marker) b x ≡ first_fit_from (plan_in header marker) b from)
found_between header marker b from e x a l =
    let f = find_accepted header marker b from e in
    let t = earliest_from header marker b from e in
    found_from header marker b x f.header_is f.marker_is f.most (first_fit_from (plan_in header marker) b from) l t.1
    (λ y c d. t.2 y (omega arith) d)

-- ---- of the whole capture

pub earliest_slot : (header marker b : List ℕ) → find_says header marker b ≡ Done
    → MarkerAt header marker b (first_fit (plan_in header marker) b)
    × ((x : ℕ) → x < first_fit (plan_in header marker) b → MarkerAt header marker b x → ⊥)
earliest_slot header marker b e = let t = earliest_from header marker b 0 e in (t.1, λ x l. t.2 x (omega arith) l)

pub earliest_found : (header marker b : List ℕ) → run_says header marker ≡ Done → length marker ≡ marker_bytes (fields_of header)
    → length b ≤ capture_most
    → (s : ℕ) → MarkerAt header marker b s → ((x : ℕ) → x < s → MarkerAt header marker b x → ⊥)
    → (find_says header marker b ≡ Done) × (first_fit (plan_in header marker) b ≡ s)
earliest_found header marker b e m h s at none = found_from header marker b 0 e m h s (omega arith) at (λ x a l. none x l)

-- ---- 19

-- no other question has that number
never_then : (a b : Answer) → (number_of a ≡ 19 → ⊥) → (number_of b ≡ 19 → ⊥) → number_of (then a b) ≡ 19 → ⊥
never_then Done b f g = g
never_then (No number place) b f g = f

never_ask : (t : Bool) (number place : ℕ) → (number ≡ 19 → ⊥) → number_of (ask t number place) ≡ 19 → ⊥
never_ask true number place f e = omega arith
never_ask false number place f e = f e

header_never : (header marker : List ℕ) → number_of (run_says header marker) ≡ 19 → ⊥
unfolding run_says form_says fields_say
header_never header marker =
    let f : Fields = fields_of header in
    never_then (form_says header) _
    (never_then (ask (question1 header) 1 0) _ (never_ask (question1 header) 1 0 (λ z. omega arith))
    (never_then (ask (question2 f) 2 0) _ (never_ask (question2 f) 2 0 (λ z. omega arith))
    (never_then (ask (question3 f) 3 0) _ (never_ask (question3 f) 3 0 (λ z. omega arith))
    (never_then (ask (question4 f) 4 0) _ (never_ask (question4 f) 4 0 (λ z. omega arith))
    (never_then (ask (question5 f) 5 0) _ (never_ask (question5 f) 5 0 (λ z. omega arith))
    (never_then (ask (question6 f) 6 0) (ask (question7 f) 7 0) (never_ask (question6 f) 6 0 (λ z. omega arith))
    (never_ask (question7 f) 7 0 (λ z. omega arith))))))))
    (never_then (ask (marks_good f marker) 7 0) (ask (question20 f) 20 0) (never_ask (marks_good f marker) 7 0 (λ z. omega arith))
    (never_ask (question20 f) 20 0 (λ z. omega arith)))

-- so those before it are answered yes
after_yes : (a rest : Answer) → (number_of a ≡ 19 → ⊥) → then a rest ≡ No 19 0 → (a ≡ Done) × (rest ≡ No 19 0)
after_yes Done rest f e = (refl, e)
after_yes (No number place) rest f e = absurd (f (ap number_of e))

-- 19 says that the marker stands at no slot from the given one on,
pub none_from : (header marker b : List ℕ) (from : ℕ) → find_from_says header marker b from ≡ No 19 0
    → (x : ℕ) → from ≤ x → MarkerAt header marker b x → ⊥
unfolding find_from_says
none_from header marker b from e x a at =
    let p : Plan = plan_in header marker in
    let lengths : Bool = find_lengths_right (fields_of header) (length marker) (length b) in
    let q7 = after_yes (run_says header marker) _ (header_never header marker) e in
    let q8 = after_yes (ask lengths 8 0) (slot_says p b from) (never_ask lengths 8 0 (λ z. omega arith)) q7.1 in
    let m = (lengths_are (fields_of header) (length marker) (length b) (ask_done lengths 8 0 q8.0)).0 in
    let here = marker_fits header marker q7.0 m b x at in
    ⊎_elim
    (λ (l : first_fit_from p b from < starts (marker_slots p) b). no_done (sym q8.1 ∙ slot_yes p b from l))
    (λ (l : starts (marker_slots p) b ≤ first_fit_from p b from).
    true_false (fits p b x) here.1 (none_earlier (marker_slot p) (marker_slots p) b from x a (omega (arith, here.0))))
    (lt_or_le (first_fit_from p b from) (starts (marker_slots p) b))

-- and is the answer where it stands at none.
pub none_from_19 : (header marker b : List ℕ) (from : ℕ) → run_says header marker ≡ Done → length marker ≡ marker_bytes (fields_of header)
    → length b ≤ capture_most
    → ((x : ℕ) → from ≤ x → MarkerAt header marker b x → ⊥) → find_from_says header marker b from ≡ No 19 0
unfolding find_from_says
none_from_19 header marker b from e m h none =
    let p : Plan = plan_in header marker in
    let no : slot_says p b from ≡ No 19 0 =
    ⊎_elim
    (λ (l : first_fit_from p b from < starts (marker_slots p) b).
    absurd (none (first_fit_from p b from) (earliest_least (marker_slot p) (marker_slots p) b from)
    (fits_marker header marker e m b (first_fit_from p b from) l (earliest_stands (marker_slot p) (marker_slots p) b from l))))
    (λ (l : starts (marker_slots p) b ≤ first_fit_from p b from). slot_no p b from l)
    (lt_or_le (first_fit_from p b from) (starts (marker_slots p) b)) in
    rw (e, are_lengths (fields_of header) (length marker) (length b) m h) no

-- No slot is left where the given one lies beyond the capture.
pub beyond_19 : (header marker b : List ℕ) (from : ℕ) → run_says header marker ≡ Done → length marker ≡ marker_bytes (fields_of header)
    → length b ≤ capture_most → 8 * length b ≤ from → find_from_says header marker b from ≡ No 19 0
unfolding find_from_says
beyond_19 header marker b from e m h beyond =
    let p : Plan = plan_in header marker in
    let least = earliest_least (marker_slot p) (marker_slots p) b from in
    let some = slots_least p (marker_fine header marker e).1 in
    let no : slot_says p b from ≡ No 19 0 = slot_no p b from (omega arith) in
    rw (e, are_lengths (fields_of header) (length marker) (length b) m h) no

-- ---- 19 of the whole capture

pub no_slot : (header marker b : List ℕ) → find_says header marker b ≡ No 19 0 → (x : ℕ) → MarkerAt header marker b x → ⊥
no_slot header marker b e x = none_from header marker b 0 e x (omega arith)

pub no_slot_19 : (header marker b : List ℕ) → run_says header marker ≡ Done → length marker ≡ marker_bytes (fields_of header) → length b ≤ capture_most
    → ((x : ℕ) → MarkerAt header marker b x → ⊥) → find_says header marker b ≡ No 19 0
no_slot_19 header marker b e m h none = none_from_19 header marker b 0 e m h (λ x a. none x)
