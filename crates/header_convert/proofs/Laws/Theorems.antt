-- Each trip undoes the other, since the 48 bits stay and what is after them is known.
use mathlib.Core.Path.{◌≡◌, refl, sym, ap, ◌∙◌}
use mathlib.Core.Bool.{Bool}
use mathlib.Core.List.{List}
use mathlib.Core.Logic.{⊎_elim}
use Prim.Native.Nat.{ℕ, ◌+◌, ◌-◌, ◌≤◌, ◌<◌}
use native.Mathlib.Omega.{arith}
use lib.Dec.{eqb}
use lib.ListN.{length}
use borrow.Author.Tests.{lt-ltb, le-ltb, eqb-true, eq-eqb, ne_eqb}
use Rattle.bits.specs.Basics.{bool}
use Rattle.bits.proofs.Laws.Choice.{bool_lt, lt_or_le}
use Rattle.bits.specs.Pack.{val, bit_at, Bits, Bytes, cut}
use Rattle.bits.proofs.Laws.Pack.{val_same, bit_lt, length_bytes, bit_bytes, bytes_made, cut_in, cut_past, cut_bits}
use Rattle.bits.proofs.Laws.Parts.{val_none, none_val, same_val}
use Rattle.answers.specs.Answer.{Done, ask, then}
use Rattle.answers.proofs.Laws.Answer.{then_done, ask_done, fits_ask, fits_then}
use Rattle.answers.specs.Inner.{Fits}
use Rattle.header.specs.Header.{field, fields_of, spare_of, old_spare_of, with_copies}
use Rattle.header.proofs.Laws.Form.{fields_front}
use Rattle.header.specs.declared.Fields.{Fields}
use Rattle.header_sizes.specs.Quantities.{symbols_per_word, interleaver_delay}
use Rattle.header_sizes.specs.Inner.{Valid}
use Rattle.header_questions.specs.Questions.{header_says, old_says}
use Rattle.header_questions.proofs.Laws.Good.{GoodHeader, GoodOld, header_good, good_header, old_good, good_old, once_good, header_fits, old_fits}
use Rattle.header_convert.specs.Convert.{wide_bit, widened, narrowed, widen_says, narrow_says}

-- ---- bits

pub wide_front : (old : List ℕ) (j : ℕ) → j < 48 → wide_bit old j ≡ bit_at old j
wide_front old j l = rw (lt-ltb j 48 l) refl

pub wide_behind : (old : List ℕ) (j : ℕ) → 48 ≤ j → wide_bit old j ≡ bool (eqb j 53)
wide_behind old j l = rw (le-ltb j 48 l) refl

wide_bits : (old : List ℕ) → Bits (wide_bit old)
wide_bits old j =
    ⊎_elim
    (λ (l : j < 48). rw (wide_front old j l) (bit_lt old j))
    (λ (l : 48 ≤ j). rw (wide_behind old j l) (bool_lt (eqb j 53)))
    (lt_or_le j 48)

bit_wide : (old : List ℕ) (j : ℕ) → j < 80 → bit_at (widened old) j ≡ wide_bit old j
unfolding widened
bit_wide old j l = bit_bytes 10 (wide_bit old) (wide_bits old) j (omega arith)

bit_narrow : (header : List ℕ) (j : ℕ) → j < 64 → bit_at (narrowed header) j ≡ cut 48 (bit_at header) j
unfolding narrowed
bit_narrow header j l = bit_bytes 8 (cut 48 (bit_at header)) (cut_bits 48 (bit_at header) (bit_lt header)) j (omega arith)

-- ---- fields

-- the factor is not looked at but by question 20
copies_valid : (f : Fields) (copies : ℕ) → Valid f → Valid (with_copies copies f)
unfolding with_copies interleaver_delay symbols_per_word
copies_valid f copies v = record {
  rate = v.rate;
  shaped = record {
    bits_least = v.shaped.bits_least;
    bits_most = v.shaped.bits_most;
    rows_least = v.shaped.rows_least;
    rows_most = v.shaped.rows_most;
    step_least = v.shaped.step_least;
    step_most = v.shaped.step_most;
  };
  whole = v.whole;
  size_least = v.size_least;
  size_most = v.size_most;
  frames_least = v.frames_least;
  frames_most = v.frames_most;
  markers_least = v.markers_least;
  markers_most = v.markers_most;
}

wide_copies : (old : List ℕ) → (fields_of (widened old)).copies ≡ 1
unfolding fields_of field val
wide_copies old =
    val_same (λ t. bit_at (widened old) (48 + t)) (λ t. bool (eqb (48 + t) 53)) 6 (λ t l.
    bit_wide old (48 + t) (omega arith) ∙ wide_behind old (48 + t) (omega arith))

-- the ten bytes say what the eight said, with factor 1
pub wide_fields : (old : List ℕ) → fields_of (widened old) ≡ with_copies 1 (fields_of old)
wide_fields old =
    fields_front (widened old) old (λ j l. bit_wide old j (omega arith) ∙ wide_front old j l)
    ∙ ap (λ (k : ℕ). with_copies k (fields_of old)) (wide_copies old)

wide_spare : (old : List ℕ) → spare_of (widened old) ≡ 0
unfolding spare_of field
wide_spare old =
    val_none (λ t. bit_at (widened old) (54 + t)) 26 (λ t l.
    let other : 54 + t ≡ 53 → ⊥ = λ q. omega arith in
    bit_wide old (54 + t) (omega arith) ∙ wide_behind old (54 + t) (omega arith) ∙ ap bool (ne_eqb (54 + t) 53 other))

narrow_spare : (header : List ℕ) → old_spare_of (narrowed header) ≡ 0
unfolding old_spare_of field
narrow_spare header =
    val_none (λ t. bit_at (narrowed header) (48 + t)) 16 (λ t l.
    bit_narrow header (48 + t) (omega arith) ∙ cut_past 48 (bit_at header) (48 + t) (omega arith))

narrow_copies : (header : List ℕ) → (fields_of (narrowed header)).copies ≡ 0
unfolding fields_of field
narrow_copies header =
    val_none (λ t. bit_at (narrowed header) (48 + t)) 6 (λ t l.
    bit_narrow header (48 + t) (omega arith) ∙ cut_past 48 (bit_at header) (48 + t) (omega arith))

-- and back: in eight bytes there is no factor
pub narrow_fields : (header : List ℕ) → fields_of (narrowed header) ≡ with_copies 0 (fields_of header)
narrow_fields header =
    fields_front (narrowed header) header (λ j l. bit_narrow header j (omega arith) ∙ cut_in 48 (bit_at header) j l)
    ∙ ap (λ (k : ℕ). with_copies k (fields_of header)) (narrow_copies header)

wide_long : (old : List ℕ) → length (widened old) ≡ 10
unfolding widened
wide_long old = length_bytes 10 (wide_bit old)

narrow_long : (header : List ℕ) → length (narrowed header) ≡ 8
unfolding narrowed
narrow_long header = length_bytes 8 (cut 48 (bit_at header))

-- ---- what comes after the 48 bits of a header that is accepted

old_behind : (old : List ℕ) → old_spare_of old ≡ 0 → (j : ℕ) → 48 ≤ j → j < 64 → bit_at old j ≡ 0
unfolding old_spare_of field
old_behind old z j l h =
    let e : j ≡ 48 + (j - 48) = omega arith in
    ap (bit_at old) e ∙ none_val (λ t. bit_at old (48 + t)) (λ t. bit_lt old (48 + t)) 16 z (j - 48) (omega arith)

-- the factor 1 in six bits, and zeros
factor_one : (header : List ℕ) → (fields_of header).copies ≡ 1 → (t : ℕ) → t < 6 → bit_at header (48 + t) ≡ bool (eqb (48 + t) 53)
unfolding fields_of field val
factor_one header one t l =
    same_val (λ t. bit_at header (48 + t)) (λ t. bool (eqb (48 + t) 53)) (λ t. bit_lt header (48 + t)) (λ t. bool_lt (eqb (48 + t) 53)) 6 one t l

zeros : (header : List ℕ) → spare_of header ≡ 0 → (t : ℕ) → t < 26 → bit_at header (54 + t) ≡ 0
unfolding spare_of field
zeros header z t l = none_val (λ t. bit_at header (54 + t)) (λ t. bit_lt header (54 + t)) 26 z t l

header_behind : (header : List ℕ) → (fields_of header).copies ≡ 1 → spare_of header ≡ 0 → (j : ℕ) → 48 ≤ j → j < 80 → bit_at header j ≡ bool (eqb j 53)
header_behind header one z j l h =
    ⊎_elim
    (λ (m : j < 54).
    let e : 48 + (j - 48) ≡ j = omega arith in
    ap (bit_at header) (sym e) ∙ factor_one header one (j - 48) (omega arith) ∙ ap (λ (i : ℕ). bool (eqb i 53)) e)
    (λ (m : 54 ≤ j).
    let e : 54 + (j - 54) ≡ j = omega arith in
    let other : j ≡ 53 → ⊥ = λ q. omega arith in
    ap (bit_at header) (sym e) ∙ zeros header z (j - 54) (omega arith) ∙ sym (ap bool (ne_eqb j 53 other)))
    (lt_or_le j 54)

-- ---- the trips

-- every archived header makes the first trip, and comes back as it was
pub old_widens : (old : List ℕ) → old_says old ≡ Done → widen_says old 10 ≡ Done
unfolding widen_says
old_widens old e = rw e refl

pub widen_narrow : (old : List ℕ) (n : ℕ) → Bytes old → widen_says old n ≡ Done → (narrow_says (widened old) 8 ≡ Done) × (narrowed (widened old) ≡ old)
unfolding widen_says narrow_says narrowed
widen_narrow old n b e =
    let g : GoodOld old = old_good old (then_done (old_says old) (ask (eqb n 10) 8 0) e).0 in
    let good : GoodHeader (widened old) = record {
      long = wide_long old;
      spare = wide_spare old;
      valid = rw (wide_fields old) (copies_valid (fields_of old) 1 g.valid);
      copies = once_good (fields_of (widened old)).copies (wide_copies old);
    } in (
      rw (good_header (widened old) good, eq-eqb (fields_of (widened old)).copies 1 (wide_copies old)) refl,
      sym (bytes_made 8 (cut 48 (bit_at (widened old))) old g.long b (λ j l.
          ⊎_elim
          (λ (h : j < 48). sym (wide_front old j h) ∙ sym (bit_wide old j (omega arith)) ∙ sym (cut_in 48 (bit_at (widened old)) j h))
          (λ (h : 48 ≤ j). old_behind old g.spare j h (omega arith) ∙ sym (cut_past 48 (bit_at (widened old)) j h))
          (lt_or_le j 48))),
    )

-- every valid header with factor 1 makes the second, and comes back as it was
pub once_narrows : (header : List ℕ) → header_says header ≡ Done → (fields_of header).copies ≡ 1 → narrow_says header 8 ≡ Done
unfolding narrow_says
once_narrows header e one = rw (e, eq-eqb (fields_of header).copies 1 one) refl

pub narrow_widen : (header : List ℕ) (n : ℕ) → Bytes header → narrow_says header n ≡ Done → (widen_says (narrowed header) 10 ≡ Done) × (widened (narrowed header) ≡ header)
unfolding widen_says narrow_says widened
narrow_widen header n b e =
    let d = then_done (header_says header) (then (ask (eqb n 8) 8 0) (ask (eqb (fields_of header).copies 1) 21 0)) e in
    let d8 = then_done (ask (eqb n 8) 8 0) (ask (eqb (fields_of header).copies 1) 21 0) d.1 in
    let one : (fields_of header).copies ≡ 1 = eqb-true (fields_of header).copies 1 (ask_done (eqb (fields_of header).copies 1) 21 0 d8.1) in
    let g : GoodHeader header = header_good header d.0 in
    let good : GoodOld (narrowed header) = record {
      long = narrow_long header;
      spare = narrow_spare header;
      valid = rw (narrow_fields header) (copies_valid (fields_of header) 0 g.valid);
    } in (
      rw (good_old (narrowed header) good) refl,
      sym (bytes_made 10 (wide_bit (narrowed header)) header g.long b (λ j l.
          ⊎_elim
          (λ (h : j < 48). sym (cut_in 48 (bit_at header) j h) ∙ sym (bit_narrow header j (omega arith)) ∙ sym (wide_front (narrowed header) j h))
          (λ (h : 48 ≤ j). header_behind header one g.spare j h (omega arith) ∙ sym (wide_behind (narrowed header) j h))
          (lt_or_le j 48))),
    )

-- ---- the answers fit the number that C gets

pub widen_fits : (old : List ℕ) (n : ℕ) → Fits (widen_says old n)
unfolding widen_says
widen_fits old n =
    fits_then (old_says old) (ask (eqb n 10) 8 0) (old_fits old) (λ e. fits_ask (eqb n 10) 8 0 (omega arith) (omega arith) (λ z. omega arith))

pub narrow_fits : (header : List ℕ) (n : ℕ) → Fits (narrow_says header n)
unfolding narrow_says
narrow_fits header n =
    let t : Bool = eqb n 8 in
    let k : Bool = eqb (fields_of header).copies 1 in
    fits_then (header_says header) (then (ask t 8 0) (ask k 21 0)) (header_fits header)
    (λ e. fits_then (ask t 8 0) (ask k 21 0) (fits_ask t 8 0 (omega arith) (omega arith) (λ z. omega arith))
    (λ g. fits_ask k 21 0 (omega arith) (omega arith) (λ z. omega arith)))
