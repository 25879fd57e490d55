-- The marker symbols that are lent beside a header: how many are looked at, the loop over them, and what an accepted header with them is known to be.
use mathlib.Core.Path.{◌≡◌, sym, ap, ◌∙◌}
use mathlib.Core.Bool.{Bool, true, false}
use mathlib.Core.List.{List}
use Prim.Native.Nat.{ℕ, ◌≤◌, ◌<◌}
use native.Mathlib.Omega.{arith}
use native.Mathlib.Nat.{min-le_left, min-le_right, min-eq_right}
use lib.Dec.{ltb, eqb}
use lib.ListN.{length, get_or}
use borrow.Author.Tests.{le-ltb, ltb-true, eq-eqb, ne_eqb}
use Rattle.bits.specs.Basics.{up_to}
use Rattle.bits.proofs.Laws.First.{first_here, first_end, none_fails, first_same}
use Rattle.header.specs.Header.{fields_of}
use Rattle.header.specs.declared.Fields.{Fields}
use Rattle.header_sizes.specs.Quantities.{pulse_order}
use Rattle.answers.specs.Answer.{Done, ask, then}
use Rattle.answers.proofs.Laws.Answer.{then_done, ask_done, fits_ask, fits_then}
use Rattle.answers.specs.Inner.{Fits}
use Rattle.header_questions.specs.Questions.{lent_marks, below, all_under, marks_good, question20, form_says, header_says, run_says}
use Rattle.header_questions.proofs.Laws.Good.{form_fits}

pub lent_le : (f : Fields) (marker : List ℕ) → lent_marks f marker ≤ length marker
unfolding lent_marks
lent_le f marker = min-le_left (length marker) f.markers

-- the loop over the symbols: one that is not below M, and the end
pub under_no : (order n : ℕ) (marker : List ℕ) (i : ℕ) → i < n → order ≤ get_or marker i 0 → up_to (below order marker) i n ≡ up_to (below order marker) 0 n
    → all_under order n marker ≡ false
under_no order n marker i l h e =
    let here : up_to (below order marker) 0 n ≡ i = sym e ∙ first_here (below order marker) n i l (le-ltb (get_or marker i 0) order h) in
    ne_eqb (up_to (below order marker) 0 n) n (λ q. omega arith)

pub under_yes : (order n : ℕ) (marker : List ℕ) (i : ℕ) → n ≤ i → i ≤ n → up_to (below order marker) i n ≡ up_to (below order marker) 0 n → all_under order n marker ≡ true
under_yes order n marker i l h e = eq-eqb (up_to (below order marker) 0 n) n (sym e ∙ first_end (below order marker) n i l h)

pub lent_most : (f : Fields) (marker : List ℕ) → lent_marks f marker ≤ f.markers
unfolding lent_marks
lent_most f marker = min-le_right (length marker) f.markers

-- a slice of the right length is carried whole
pub lent_all : (f : Fields) (marker : List ℕ) → length marker ≡ f.markers → lent_marks f marker ≡ f.markers
unfolding lent_marks
lent_all f marker e = rw e (min-eq_right (omega arith))

-- a symbol that is not below M is found wherever it stands, in a short slice too
pub mark_bad : (f : Fields) (marker : List ℕ) (i : ℕ) → i < lent_marks f marker → pulse_order f ≤ get_or marker i 0 → marks_good f marker ≡ false
unfolding marks_good
mark_bad f marker i l h =
    ne_eqb (up_to test 0 n) n (λ e. let b : get_or marker i 0 < pulse_order f = ltb-true (get_or marker i 0) (pulse_order f) (none_fails test n e i l) in omega arith)
  where
    n : ℕ
    n = lent_marks f marker

    test : ℕ → Bool
    test = below (pulse_order f) marker

-- and what stands past the W-th does not matter
pub marks_same : (f : Fields) (marker other : List ℕ) → lent_marks f marker ≡ lent_marks f other
    → ((i : ℕ) → i < lent_marks f marker → get_or marker i 0 ≡ get_or other i 0) → marks_good f marker ≡ marks_good f other
unfolding marks_good
marks_same f marker other e h =
    ap (λ (n : ℕ). eqb n (lent_marks f marker))
    (first_same (below (pulse_order f) marker) (below (pulse_order f) other) (lent_marks f marker) (λ i l. ap (λ (x : ℕ). ltb x (pulse_order f)) (h i l)))
    ∙ ap (λ (n : ℕ). all_under (pulse_order f) n other) e

-- ---- what acceptance gives

-- an accepted call: the header is good, and the marker symbols that were looked at are below M
pub run_good : (header marker : List ℕ) → run_says header marker ≡ Done → (header_says header ≡ Done) × (marks_good (fields_of header) marker ≡ true)
unfolding run_says header_says
run_good header marker e =
    let f : Fields = fields_of header in
    let r = then_done (form_says header) (then (ask (marks_good f marker) 7 0) (ask (question20 f) 20 0)) e in
    let t = then_done (ask (marks_good f marker) 7 0) (ask (question20 f) 20 0) r.1 in
    (rw r.0 t.1, ask_done (marks_good f marker) 7 0 t.0)

-- the answer fits the number that C gets
pub run_fits : (header marker : List ℕ) → Fits (run_says header marker)
unfolding run_says
run_fits header marker =
    let m : Bool = marks_good (fields_of header) marker in
    let k : Bool = question20 (fields_of header) in
    fits_then (form_says header) (then (ask m 7 0) (ask k 20 0)) (form_fits header)
    (λ e. fits_then (ask m 7 0) (ask k 20 0) (fits_ask m 7 0 (omega arith) (omega arith) (λ z. omega arith))
    (λ g. fits_ask k 20 0 (omega arith) (omega arith) (λ z. omega arith)))
