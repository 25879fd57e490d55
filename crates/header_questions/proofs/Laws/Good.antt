-- What a header is known to be whose questions are all answered yes.
use mathlib.Core.Path.{◌≡◌, refl, ap, ◌∙◌}
use mathlib.Core.Bool.{Bool, true, false}
use mathlib.Core.List.{List}
use mathlib.Core.Logic.{⊎_elim}
use Prim.Native.Nat.{ℕ, ◌*◌, ◌%◌, ◌≤◌, ◌<◌}
use native.Mathlib.Omega.{arith}
use native.Mathlib.Nat.{zero-mod, mod-eq_of_lt}
use lib.Dec.{leb, eqb}
use lib.ListN.{length}
use borrow.Author.Tests.{ltb-true, leb-true, eqb-true, lt-ltb, le-leb, eq-eqb, ne_eqb}
use Rattle.bits.proofs.Laws.Choice.{lt_or_le}
use Rattle.bits.proofs.Laws.Table.{true_false, both_true}
use Rattle.header.specs.Header.{fields_of, spare_of, old_spare_of}
use Rattle.header.specs.declared.Fields.{Fields}
use Rattle.header_sizes.specs.Quantities.{symbols_per_word, interleaver_delay}
use Rattle.header_sizes.specs.Inner.{Valid, Shaped}
use Rattle.header_sizes.proofs.Laws.Shape.{symbols_least}
use Rattle.answers.specs.Answer.{Done, place_of, ask, then}
use Rattle.answers.proofs.Laws.Answer.{then_done, ask_done, fits_ask, fits_then, placeless_ask, placeless_then}
use Rattle.answers.specs.Inner.{Fits}
use Rattle.header_questions.specs.Questions.{within, question1, old_question1, question2, question3, question4, question5, question6, question7, copies_good, question20, fields_say, form_says, header_says, old_says}

-- a range, from its test and to it
pub within_range : (least x most : ℕ) → within least x most ≡ true → (least ≤ x) × (x ≤ most)
within_range least x most e =
    let r = both_true (leb least x) (leb x most) e in
    (leb-true least x r.0, leb-true x most r.1)

-- ---- each question and its facts

pub shaped_by : (f : Fields) → question3 f ≡ true → question4 f ≡ true → Shaped f
unfolding question3 question4
shaped_by f q3 q4 =
    let m = within_range 2 f.bits 8 q3 in
    let r = both_true (within 1 f.rows 128) (within 1 f.step 256) q4 in
    let n = within_range 1 f.rows 128 r.0 in
    let b = within_range 1 f.step 256 r.1 in
    record { bits_least = m.0; bits_most = m.1; rows_least = n.0; rows_most = n.1; step_least = b.0; step_most = b.1 }

-- what is answered yes is valid
pub fields_valid : (f : Fields) → fields_say f ≡ Done → Valid f
unfolding fields_say question2 question5 question6 question7
fields_valid f e =
    let r2 = then_done (ask (question2 f) 2 0) _ e in
    let r3 = then_done (ask (question3 f) 3 0) _ r2.1 in
    let r4 = then_done (ask (question4 f) 4 0) _ r3.1 in
    let r5 = then_done (ask (question5 f) 5 0) _ r4.1 in
    let r6 = then_done (ask (question6 f) 6 0) (ask (question7 f) 7 0) r5.1 in
    let t = both_true (within 1 f.size 2048) (within 1 f.frames 64) (ask_done (question6 f) 6 0 r6.0) in
    let s = within_range 1 f.size 2048 t.0 in
    let a = within_range 1 f.frames 64 t.1 in
    let w = within_range 1 f.markers 32 (ask_done (question7 f) 7 0 r6.1) in
    record {
      rate = ltb-true f.rate 3 (ask_done (question2 f) 2 0 r2.0);
      shaped = shaped_by f (ask_done (question3 f) 3 0 r3.0) (ask_done (question4 f) 4 0 r4.0);
      whole = eqb-true (interleaver_delay f % symbols_per_word f) 0 (ask_done (question5 f) 5 0 r5.0);
      size_least = s.0;
      size_most = s.1;
      frames_least = a.0;
      frames_most = a.1;
      markers_least = w.0;
      markers_most = w.1;
    }

-- and what is valid is answered yes
pub valid_fields : (f : Fields) → Valid f → fields_say f ≡ Done
unfolding fields_say question2 question3 question4 question5 question6 question7
valid_fields f v =
    let s : Shaped f = v.shaped in
    rw (
      lt-ltb f.rate 3 v.rate,
      le-leb 2 f.bits s.bits_least,
      le-leb f.bits 8 s.bits_most,
      le-leb 1 f.rows s.rows_least,
      le-leb f.rows 128 s.rows_most,
      le-leb 1 f.step s.step_least,
      le-leb f.step 256 s.step_most,
      eq-eqb (interleaver_delay f % symbols_per_word f) 0 v.whole,
      le-leb 1 f.size v.size_least,
      le-leb f.size 2048 v.size_most,
      le-leb 1 f.frames v.frames_least,
      le-leb f.frames 64 v.frames_most,
      le-leb 1 f.markers v.markers_least,
      le-leb f.markers 32 v.markers_most,
    )
    refl

-- ---- of a header

pub record GoodForm (header : List ℕ) : Type 0 where
  pub long : length header ≡ 10
  pub spare : spare_of header ≡ 0
  pub valid : Valid (fields_of header)

pub form_good : (header : List ℕ) → form_says header ≡ Done → GoodForm header
unfolding form_says question1
form_good header e =
    let r = then_done (ask (question1 header) 1 0) (fields_say (fields_of header)) e in
    let t = both_true (eqb (length header) 10) (eqb (spare_of header) 0) (ask_done (question1 header) 1 0 r.0) in
    record {
      long = eqb-true (length header) 10 t.0;
      spare = eqb-true (spare_of header) 0 t.1;
      valid = fields_valid (fields_of header) r.1;
    }

pub good_form : (header : List ℕ) → GoodForm header → form_says header ≡ Done
unfolding form_says question1
good_form header g =
    rw (eq-eqb (length header) 10 g.long, eq-eqb (spare_of header) 0 g.spare) (valid_fields (fields_of header) g.valid)

-- and its factor is one of the seven
pub record GoodHeader (header : List ℕ) : Type 0 where
  pub long : length header ≡ 10
  pub spare : spare_of header ≡ 0
  pub valid : Valid (fields_of header)
  pub copies : copies_good (fields_of header).copies ≡ true

pub header_good : (header : List ℕ) → header_says header ≡ Done → GoodHeader header
unfolding header_says
header_good header e =
    let r = then_done (form_says header) (ask (question20 (fields_of header)) 20 0) e in
    let g = form_good header r.0 in
    record { long = g.long; spare = g.spare; valid = g.valid; copies = ask_done (question20 (fields_of header)) 20 0 r.1 }

pub good_header : (header : List ℕ) → GoodHeader header → header_says header ≡ Done
unfolding header_says
good_header header g =
    rw (good_form header (record { long = g.long; spare = g.spare; valid = g.valid }), g.copies) refl

-- an archived header
pub record GoodOld (old : List ℕ) : Type 0 where
  pub long : length old ≡ 8
  pub spare : old_spare_of old ≡ 0
  pub valid : Valid (fields_of old)

pub old_good : (old : List ℕ) → old_says old ≡ Done → GoodOld old
unfolding old_says old_question1
old_good old e =
    let r = then_done (ask (old_question1 old) 1 0) (fields_say (fields_of old)) e in
    let t = both_true (eqb (length old) 8) (eqb (old_spare_of old) 0) (ask_done (old_question1 old) 1 0 r.0) in
    record {
      long = eqb-true (length old) 8 t.0;
      spare = eqb-true (old_spare_of old) 0 t.1;
      valid = fields_valid (fields_of old) r.1;
    }

pub good_old : (old : List ℕ) → GoodOld old → old_says old ≡ Done
unfolding old_says old_question1
good_old old g =
    rw (eq-eqb (length old) 8 g.long, eq-eqb (old_spare_of old) 0 g.spare) (valid_fields (fields_of old) g.valid)

-- ---- question 20

-- the factors are 1 to 32
pub copies_range : (copies : ℕ) → copies_good copies ≡ true → (1 ≤ copies) × (copies ≤ 32)
unfolding copies_good
copies_range copies e = (
  ⊎_elim (λ (l : copies < 1). let z : copies ≡ 0 = omega arith in absurd (true_false (copies_good copies) e (rw z refl))) (λ (l : 1 ≤ copies). l) (lt_or_le copies 1),
  ⊎_elim
      (λ (l : copies < 33). let m : copies ≤ 32 = omega arith in m)
      (λ (l : 33 ≤ copies).
      let other : (k : ℕ) → k < 33 → eqb copies k ≡ false = λ k h. ne_eqb copies k (λ q. omega arith) in
      absurd (true_false (copies_good copies) e (rw (
        other 1 (omega arith),
        other 2 (omega arith),
        other 3 (omega arith),
        other 4 (omega arith),
        other 8 (omega arith),
        other 16 (omega arith),
        other 32 (omega arith),
      )
      refl)))
      (lt_or_le copies 33),
)

-- 1 is a factor
pub once_good : (copies : ℕ) → copies ≡ 1 → copies_good copies ≡ true
unfolding copies_good
once_good copies e = rw e refl

-- ---- the answers fit the number that C gets

fields_fit : (f : Fields) → Fits (fields_say f)
unfolding fields_say
fields_fit f =
    fits_then (ask (question2 f) 2 0) _ (fits_ask (question2 f) 2 0 (omega arith) (omega arith) (λ z. omega arith))
    (λ a. fits_then (ask (question3 f) 3 0) _ (fits_ask (question3 f) 3 0 (omega arith) (omega arith) (λ z. omega arith))
    (λ b. fits_then (ask (question4 f) 4 0) _ (fits_ask (question4 f) 4 0 (omega arith) (omega arith) (λ z. omega arith))
    (λ c. fits_then (ask (question5 f) 5 0) _ (fits_ask (question5 f) 5 0 (omega arith) (omega arith) (λ z. omega arith))
    (λ d. fits_then (ask (question6 f) 6 0) (ask (question7 f) 7 0) (fits_ask (question6 f) 6 0 (omega arith) (omega arith) (λ z. omega arith))
    (λ e. fits_ask (question7 f) 7 0 (omega arith) (omega arith) (λ z. omega arith))))))

after_1 : (t : Bool) (f : Fields) → Fits (then (ask t 1 0) (fields_say f))
after_1 t f = fits_then (ask t 1 0) (fields_say f) (fits_ask t 1 0 (omega arith) (omega arith) (λ z. omega arith)) (λ e. fields_fit f)

pub form_fits : (header : List ℕ) → Fits (form_says header)
unfolding form_says
form_fits header = after_1 (question1 header) (fields_of header)

pub header_fits : (header : List ℕ) → Fits (header_says header)
unfolding header_says
header_fits header =
    fits_then (form_says header) (ask (question20 (fields_of header)) 20 0) (form_fits header)
    (λ e. fits_ask (question20 (fields_of header)) 20 0 (omega arith) (omega arith) (λ z. omega arith))

pub old_fits : (old : List ℕ) → Fits (old_says old)
unfolding old_says
old_fits old = after_1 (old_question1 old) (fields_of old)

-- and no refusal has a place
pub header_placeless : (header : List ℕ) → place_of (header_says header) ≡ 0
unfolding header_says form_says fields_say
header_placeless header =
    let f : Fields = fields_of header in
    placeless_then (form_says header) (ask (question20 f) 20 0)
    (placeless_then (ask (question1 header) 1 0) (fields_say f) (placeless_ask (question1 header) 1)
    (placeless_then (ask (question2 f) 2 0) _ (placeless_ask (question2 f) 2)
    (placeless_then (ask (question3 f) 3 0) _ (placeless_ask (question3 f) 3)
    (placeless_then (ask (question4 f) 4 0) _ (placeless_ask (question4 f) 4)
    (placeless_then (ask (question5 f) 5 0) _ (placeless_ask (question5 f) 5)
    (placeless_then (ask (question6 f) 6 0) (ask (question7 f) 7 0) (placeless_ask (question6 f) 6) (placeless_ask (question7 f) 7)))))))
    (placeless_ask (question20 f) 20)

-- ---- question 5

-- one row is accepted for any B, and two never are
one_spread : (f : Fields) → f.rows ≡ 1 → interleaver_delay f ≡ 0
unfolding interleaver_delay
one_spread f e = rw e (omega arith)

pub one_row : (f : Fields) → f.rows ≡ 1 → question5 f ≡ true
unfolding question5
one_row f e = eq-eqb (interleaver_delay f % symbols_per_word f) 0 (ap (λ (x : ℕ). x % symbols_per_word f) (one_spread f e) ∙ zero-mod (symbols_per_word f))

two_spread : (f : Fields) → f.rows ≡ 2 → interleaver_delay f ≡ 2 * f.step
unfolding interleaver_delay
two_spread f e = rw e refl

pub two_rows : (f : Fields) → Shaped f → f.rows ≡ 2 → question5 f ≡ false
unfolding question5
two_rows f s e =
    ne_eqb (interleaver_delay f % symbols_per_word f) 0 (λ z.
    let twice : interleaver_delay f ≡ 2 * f.step = two_spread f e in
    let l = symbols_least f s in
    let h = s.step_most in
    let same : interleaver_delay f % symbols_per_word f ≡ interleaver_delay f = mod-eq_of_lt (omega arith) in
    let p = s.step_least in
    omega arith)
