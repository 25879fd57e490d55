-- There and back: the frames come back out of their stream with questions 16 and 18 answered yes, and a stream that passes them is that of its frames.
use mathlib.Core.Path.{◌≡◌, refl, sym, ap, ap₂, ◌∙◌}
use mathlib.Core.Bool.{true}
use mathlib.Core.List.{List}
use mathlib.Core.Logic.{⊎_elim}
use Prim.Native.Nat.{ℕ, ◌+◌, ◌-◌, ◌*◌, ◌/◌, ◌%◌, ◌^◌, ◌≤◌, ◌<◌}
use native.Mathlib.Omega.{arith}
use native.Mathlib.Nat.{mod-lt, div-add-mod', div-lt_iff_lt-mul, mul_left_comm}
use lib.Arith.{digits_lt, digits_div, digits_mod}
use lib.Dec.{eqb}
use lib.ListN.{length}
use borrow.Author.Tests.{eq-eqb, eqb-true}
use Rattle.answers.specs.Answer.{Done, ask}
use Rattle.answers.proofs.Laws.Answer.{ask_done, then_done, fits_ask, fits_then}
use Rattle.answers.specs.Inner.{Fits}
use Rattle.bits.proofs.Laws.Choice.{lt_or_le}
use Rattle.bits.specs.Basics.{up_to}
use Rattle.bits.proofs.Laws.First.{up_to_le, all_pass, none_fails, found_none, none_found}
use Rattle.bits.specs.Pack.{Bits, Bytes, val, bit_at}
use Rattle.bits.proofs.Laws.Pack.{val_same, bit_val, bit_bytes, bytes_are, bytes_made, length_bytes}
use Rattle.sizes.specs.Sizes.{frame_marker, marker_bits, span}
use Rattle.stream_writer.specs.Stream.{marker_bit, stream_bit}
use Rattle.stream_writer.proofs.Laws.Stream.{marker_val, stream_mark, stream_frame, stream_fill}
use Rattle.stream_reader.specs.Frames.{frame_marked, first_unmarked, zero_at, fill_zero, frames_say, frame_place, frames_in}

-- questions 16 and 18 are both answered yes
both : (size count end : ℕ) (st : ℕ → ℕ) → frames_say size count end st ≡ Done → (first_unmarked size count st ≡ count) × (fill_zero size count end st ≡ true)
unfolding frames_say
both size count end st e =
    let first : ℕ = first_unmarked size count st in
    let parts = then_done (ask (eqb first count) 16 first) (ask (fill_zero size count end st) 18 0) e in
    (eqb-true first count (ask_done (eqb first count) 16 first parts.0), ask_done (fill_zero size count end st) 18 0 parts.1)

-- the answer fits the number that C gets
pub frames_fit : (size count end : ℕ) (stream : ℕ → ℕ) → count < 2 ^ 32 → Fits (frames_say size count end stream)
unfolding frames_say first_unmarked
frames_fit size count end stream few =
    let first : ℕ = first_unmarked size count stream in
    let x : first ≤ count = up_to_le _ count in
    fits_then (ask (eqb first count) 16 first) (ask (fill_zero size count end stream) 18 0)
    (fits_ask (eqb first count) 16 first (omega arith) (omega arith) (λ z. omega arith))
    (λ e. fits_ask (fill_zero size count end stream) 18 0 (omega arith) (omega arith) (λ z. omega arith))

pub frames_are : (size count : ℕ) (st : ℕ → ℕ) → Bits st → (length (frames_in size count st) ≡ count * size) × Bytes (frames_in size count st)
unfolding frames_in
frames_are size count st bits =
    let f : ℕ → ℕ = λ y. st (frame_place size y) in
    (length_bytes (count * size) f, bytes_are (count * size) f (λ y. bits (frame_place size y)))

-- ---- there and back

module _ (size count end : ℕ) (size1 : 1 ≤ size) (fit : count * span size ≤ end) where
  -- a bit of frame j lies in the stream
  inside : (j r : ℕ) → j < count → r < span size → j * span size + r < end
  inside j r h l = let d = digits_lt h l in omega arith

  module _ (frames : List ℕ) (st : ℕ → ℕ) (agree : (x : ℕ) → x < end → st x ≡ stream_bit size count frames x) where
    passes_16 : first_unmarked size count st ≡ count
    unfolding first_unmarked frame_marked
    passes_16 = all_pass (frame_marked size st) count (λ j h.
        eq-eqb (val (λ r. st (j * span size + r)) marker_bits) frame_marker
        (val_same (λ r. st (j * span size + r)) marker_bit marker_bits (λ r l.
        agree (j * span size + r) (inside j r h (omega arith)) ∙ stream_mark size count frames j r h l)
        ∙ marker_val))

    passes_18 : fill_zero size count end st ≡ true
    unfolding fill_zero
    passes_18 =
        eq-eqb (up_to (zero_at st) (count * span size) end) end
        (found_none (zero_at st) (count * span size) end fit (λ x l h.
        eq-eqb (st x) 0 (agree x h ∙ stream_fill size count frames x l)))

    pub frames_back : length frames ≡ count * size → Bytes frames → (frames_say size count end st ≡ Done) × (frames_in size count st ≡ frames)
    unfolding frames_say frames_in
    frames_back long bytes = (
      rw (eq-eqb (first_unmarked size count st) count passes_16, passes_18) refl,
      sym (bytes_made (count * size) (λ y. st (frame_place size y)) frames long bytes (λ y l.
          let w0 : 0 < 8 * size = omega arith in
          let q : y / (8 * size) < count = (div-lt_iff_lt-mul w0).1 (omega (arith, mul_left_comm count 8 size)) in
          let r : y % (8 * size) < 8 * size = mod-lt y w0 in
          sym (agree (frame_place size y) (inside (y / (8 * size)) (marker_bits + y % (8 * size)) q (omega arith))
          ∙ stream_frame size count frames (y / (8 * size)) (y % (8 * size)) q r
          ∙ ap (bit_at frames) (div-add-mod' y (8 * size))))),
    )

  module _ (st : ℕ → ℕ) (bits : Bits st) where
    -- bit r of frame j
    frame_bit_lem : (j r : ℕ) → j < count → r < 8 * size → bit_at (frames_in size count st) (j * (8 * size) + r) ≡ st (j * span size + (marker_bits + r))
    unfolding frames_in
    frame_bit_lem j r h l =
        let f : ℕ → ℕ = λ y. st (frame_place size y) in
        let d = digits_lt h l in
        bit_bytes (count * size) f (λ y. bits (frame_place size y)) (j * (8 * size) + r) (omega (arith, mul_left_comm count 8 size))
        ∙ ap₂ (λ (a b : ℕ). st (a * span size + (marker_bits + b))) (digits_div j l) (digits_mod j l)

    -- bit r of a marker that stands
    mark_bit : (j r : ℕ) → frame_marked size st j ≡ true → r < marker_bits → st (j * span size + r) ≡ marker_bit r
    unfolding frame_marked marker_bit
    mark_bit j r h l =
        let f : ℕ → ℕ = λ r. st (j * span size + r) in
        sym (bit_val f (λ r. bits (j * span size + r)) (marker_bits - 1 - r) r marker_bits (omega arith))
        ∙ ap (λ (v : ℕ). v / 2 ^ (marker_bits - 1 - r) % 2) (eqb-true (val f marker_bits) frame_marker h)

    zero_bit : fill_zero size count end st ≡ true → (x : ℕ) → count * span size ≤ x → x < end → st x ≡ 0
    unfolding fill_zero
    zero_bit h x l k =
        let e : up_to (zero_at st) (count * span size) end ≡ end = eqb-true (up_to (zero_at st) (count * span size) end) end h in
        eqb-true (st x) 0 (none_found (zero_at st) (count * span size) end fit e x l k)

    pub stream_made : frames_say size count end st ≡ Done → (x : ℕ) → x < end → stream_bit size count (frames_in size count st) x ≡ st x
    unfolding first_unmarked
    stream_made good x h =
        let parts = both size count end st good in
        let fs : List ℕ = frames_in size count st in
        let j : ℕ = x / span size in
        let r : ℕ = x % span size in
        let e : j * span size + r ≡ x = div-add-mod' x (span size) in
        let w : r < span size = mod-lt x (omega arith) in
        ⊎_elim
        (λ (s : x < count * span size).
        let q : j < count = (div-lt_iff_lt-mul (omega arith)).1 s in
        ap (stream_bit size count fs) (sym e)
        ∙ ⊎_elim
        (λ (m : r < marker_bits). stream_mark size count fs j r q m ∙ sym (mark_bit j r (none_fails (frame_marked size st) count parts.0 j q) m))
        (λ (m : marker_bits ≤ r).
        let z : j * span size + (marker_bits + (r - marker_bits)) ≡ j * span size + r = omega arith in
        ap (stream_bit size count fs) (sym z)
        ∙ stream_frame size count fs j (r - marker_bits) q (omega arith)
        ∙ frame_bit_lem j (r - marker_bits) q (omega arith)
        ∙ ap st z)
        (lt_or_le r marker_bits)
        ∙ ap st e)
        (λ (s : count * span size ≤ x). stream_fill size count fs x s ∙ sym (zero_bit parts.1 x s h))
        (lt_or_le x (count * span size))
