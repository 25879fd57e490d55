-- What is found in a stream depends on its bits up to the end alone.
use mathlib.Core.Path.{◌≡◌, ap, ap₂}
use mathlib.Core.Bool.{Bool}
use Prim.Native.Nat.{ℕ, ◌+◌, ◌-◌, ◌*◌, ◌/◌, ◌%◌, ◌≤◌, ◌<◌}
use native.Mathlib.Omega.{arith}
use native.Mathlib.Nat.{mod-lt, div-lt_iff_lt-mul, mul_left_comm}
use lib.Arith.{digits_lt}
use lib.Dec.{eqb}
use Rattle.answers.specs.Answer.{ask, then}
use Rattle.bits.proofs.Laws.First.{same_from, first_same}
use Rattle.bits.proofs.Laws.Pack.{val_same, bytes_same}
use Rattle.sizes.specs.Sizes.{frame_marker, marker_bits, span}
use Rattle.stream_reader.specs.Frames.{frame_marked, first_unmarked, zero_at, fill_zero, frames_say, frame_place, frames_in}

module _ (size count end : ℕ) (size1 : 1 ≤ size) (fit : count * span size ≤ end) (s t : ℕ → ℕ) (agree : (x : ℕ) → x < end → s x ≡ t x) where
  unmarked_same : first_unmarked size count s ≡ first_unmarked size count t
  unfolding first_unmarked frame_marked
  unmarked_same =
      first_same (frame_marked size s) (frame_marked size t) count (λ j l.
      ap (λ (v : ℕ). eqb v frame_marker) (val_same (λ r. s (j * span size + r)) (λ r. t (j * span size + r)) marker_bits (λ r m.
      agree (j * span size + r) (let d : j * span size + r < count * span size = digits_lt l (let k : r < span size = omega arith in k) in omega arith))))

  fill_same : fill_zero size count end s ≡ fill_zero size count end t
  unfolding fill_zero
  fill_same =
      ap (λ (n : ℕ). eqb n end)
      (same_from (zero_at s) (zero_at t) (end - count * span size) (count * span size) (λ k a b. ap (λ (v : ℕ). eqb v 0) (agree k (omega arith))))

  pub say_same : frames_say size count end s ≡ frames_say size count end t
  unfolding frames_say
  say_same =
      ap₂ (λ (n : ℕ) (b : Bool). then (ask (eqb n count) 16 n) (ask b 18 0)) unmarked_same fill_same

  pub in_same : frames_in size count s ≡ frames_in size count t
  unfolding frames_in
  in_same =
      bytes_same (count * size) (λ y. s (frame_place size y)) (λ y. t (frame_place size y)) (λ y l.
      let w0 : 0 < 8 * size = omega arith in
      let q : y / (8 * size) < count = (div-lt_iff_lt-mul w0).1 (omega (arith, mul_left_comm count 8 size)) in
      let r : marker_bits + y % (8 * size) < span size = omega (arith, mod-lt y w0) in
      agree (frame_place size y) (let d : frame_place size y < count * span size = digits_lt q r in omega arith))
