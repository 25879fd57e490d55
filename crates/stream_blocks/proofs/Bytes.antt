-- Bytes of the stream, by where they lie: in the marker, in a frame, after the last frame.
use mathlib.Core.Path.{◌≡◌, sym, ap, subst, ◌∙◌}
use mathlib.Core.List.{List}
use Prim.Native.Nat.{ℕ, ◌+◌, ◌-◌, ◌*◌, ◌/◌, ◌≤◌, ◌<◌}
use native.Mathlib.Omega.{arith}
use native.Mathlib.Nat.{mul_left_comm, mul-le-mul, le_refl}
use lib.ListN.{length, set}
use Rattle.bits.specs.Pack.{val, bit_at}
use Rattle.bits.proofs.Laws.Pack.{val_same}
use Rattle.bits.proofs.Laws.Parts.{val_none}
use Rattle.bits.specs.Inner.{Laid, Made, At}
use Rattle.bits.proofs.Laws.Stretch.{laid_same, laid_one, laid_on}
use Rattle.bits.specs.declared.pieces.Position.{Position}
use Rattle.sizes.specs.Sizes.{marker_bits, span}
use Rattle.stream_writer.specs.Stream.{marker_bit, stream_bit}
use Rattle.stream_writer.proofs.Laws.Stream.{stream_mark, stream_frame, stream_fill}
use Rattle.stream_writer.specs.Inner.{Frames, Together}

module _ (size count : ℕ) (frames : List ℕ) where
  -- the stream from bit r of marked frame j on
  abbrev pub stream_from : ℕ → ℕ → ℕ → ℕ
  stream_from j r t = stream_bit size count frames (j * span size + r + t)

  pub zeros_byte : (j r : ℕ) → count ≤ j → 0 ≡ val (stream_from j r) 8
  zeros_byte j r h =
      let m : count * span size ≤ j * span size = mul-le-mul h (le_refl (span size)) in
      sym (val_none (stream_from j r) 8 (λ t l. stream_fill size count frames (j * span size + r + t) (omega arith)))

  pub marker_byte : (j r : ℕ) → j < count → r + 8 ≤ marker_bits → val (λ t. marker_bit (r + t)) 8 ≡ val (stream_from j r) 8
  marker_byte j r h l =
      val_same (λ t. marker_bit (r + t)) (stream_from j r) 8 (λ t k.
      let e : j * span size + (r + t) ≡ j * span size + r + t = omega arith in
      sym (stream_mark size count frames j (r + t) h (omega arith)) ∙ ap (stream_bit size count frames) e)

  pub frame_bit_lem : (j r t : ℕ) → j < count → marker_bits ≤ r → r + t < span size → bit_at frames (j * (8 * size) + (r - marker_bits) + t) ≡ stream_from j r t
  frame_bit_lem j r t h l k =
      let a : j * (8 * size) + (r - marker_bits) + t ≡ j * (8 * size) + (r - marker_bits + t) = omega arith in
      let b : j * span size + (marker_bits + (r - marker_bits + t)) ≡ j * span size + r + t = omega arith in
      ap (bit_at frames) a ∙ sym (stream_frame size count frames j (r - marker_bits + t) h (omega arith)) ∙ ap (stream_bit size count frames) b

  -- n bytes that lie together, and the byte after them, lie in the frames
  pub together_inside : (at : Position) (most n : ℕ) → Frames size count frames → Together size count at most n → 1 ≤ n
      → (at.piece * (8 * size) + (at.bit - marker_bits)) / 8 + n < length frames
  together_inside at most n f t h =
      let j = at.piece in
      let q : j + 1 ≤ count = let l = t.frame h in omega arith in
      let m : (j + 1) * size ≤ count * size = mul-le-mul q (le_refl size) in
      let e : j * (8 * size) ≡ 8 * (j * size) = mul_left_comm j 8 size in
      let long : length frames ≡ count * size = f.long in
      let a = t.start h in
      let b = t.end h in
      omega arith

  -- one byte, or n that lie together
  pub made_one : (at : Position) (block : List ℕ) (i v : ℕ) → i < length block → v ≡ val (stream_from at.piece at.bit) 8
      → Made (span size) (length block - i) block i 1 (stream_from at.piece at.bit) (set block i v)
  made_one at block i v l e =
      record { some = omega arith; few = omega arith; fit = omega arith; laid = laid_one block i v (stream_from at.piece at.bit) l e }

  pub made_together : (at : Position) (before after : List ℕ) (i n : ℕ) → i ≤ length before → Together size count at (length before - i) n → 1 ≤ n
      → Laid before i n (λ t. bit_at frames (at.piece * (8 * size) + (at.bit - marker_bits) + t)) after → Made (span size) (length before - i) before i n (stream_from at.piece at.bit) after
  made_together at before after i n l t h laid =
      let few = t.few in
      let end = t.end h in
      record {
        some = h;
        few = omega arith;
        fit = omega arith;
        laid = laid_same before after i n (λ t. bit_at frames (at.piece * (8 * size) + (at.bit - marker_bits) + t)) (stream_from at.piece at.bit) (λ u w.
            frame_bit_lem at.piece at.bit u (t.frame h) (t.start h) (omega arith)) laid;
      }

  -- a turn of the loop that fills a block with the stream from bit x on
  pub made_more : (x i n k : ℕ) (at : Position) (first block after : List ℕ) → k ≡ span size → At k (x + 8 * i) at → Laid first 0 i (λ t. stream_bit size count frames (x + t)) block
      → Made (span size) (length block - i) block i n (stream_from at.piece at.bit) after → Laid first 0 (i + n) (λ t. stream_bit size count frames (x + t)) after
  made_more x i n k at first block after e a l m =
      let z : i ≡ 0 + i = omega arith in
      let w : at.piece * span size + at.bit ≡ x + 8 * i = ap (λ (j : ℕ). at.piece * j + at.bit) (sym e) ∙ a.place in
      laid_on first block after 0 i n (λ t. stream_bit size count frames (x + t)) (stream_from at.piece at.bit) l
      (subst (λ (j : ℕ). Laid block j n (stream_from at.piece at.bit) after) z m.laid)
      (λ u h. ap (stream_bit size count frames) (let y : at.piece * span size + at.bit + u ≡ x + (8 * i + u) = omega arith in y))
