-- Bits of one block lie together in the packed blocks.
use mathlib.Core.Path.{◌≡◌, sym, ap, ap₂, subst, ◌∙◌}
use mathlib.Core.List.{List}
use Prim.Native.Nat.{ℕ, ◌+◌, ◌*◌, ◌/◌, ◌%◌, ◌≤◌, ◌<◌}
use native.Mathlib.Omega.{arith}
use native.Mathlib.Nat.{mul_left_comm}
use lib.Arith.{digits_div, digits_mod}
use lib.ListN.{length, set}
use Rattle.bits.specs.Pack.{val, bit_at, piece}
use Rattle.bits.proofs.Laws.Pack.{val_same}
use Rattle.bits.proofs.Laws.Pieces.{piece_bit}
use Rattle.bits.specs.Inner.{At, Laid, Made}
use Rattle.bits.proofs.Laws.Stretch.{laid_same, laid_one, laid_on}
use Rattle.bits.specs.declared.pieces.Position.{Position}
use Rattle.sizes.specs.Sizes.{marker_bits, span, info_bits, block_bytes}
use Rattle.sizes.proofs.Laws.Rate.{block_size, info_ge}
use Rattle.stream_reader.specs.Frames.{joined, frame_place}
use Rattle.stream_reader.proofs.Laws.Blocks.{joined_at}
use Rattle.stream_reader.specs.Inner.{bit_of}

-- blocks that lie back to back are read where they lie
pub joined_in : (rate : ℕ) (blocks : List ℕ) (j i : ℕ) → rate < 3 → i < info_bits rate
    → joined rate (piece (block_bytes rate) blocks) (j * info_bits rate + i) ≡ bit_at blocks (j * (8 * block_bytes rate) + i)
joined_in rate blocks j i h l =
    joined_at rate (piece (block_bytes rate) blocks) j i l ∙ piece_bit (block_bytes rate) blocks j i (omega (arith, block_size rate h))

module _ (rate : ℕ) (blocks : List ℕ) (at : Position) (h : rate < 3) where
  -- the stream that the blocks hold, from a place on
  abbrev pub joined_from : ℕ → ℕ
  joined_from t = joined rate (piece (block_bytes rate) blocks) (bit_of rate at + t)

  pub bit_there : (t : ℕ) → at.bit + t < info_bits rate → bit_at blocks (at.piece * (8 * block_bytes rate) + at.bit + t) ≡ joined_from t
  bit_there t l =
      let a : at.piece * (8 * block_bytes rate) + at.bit + t ≡ at.piece * (8 * block_bytes rate) + (at.bit + t) = omega arith in
      let b : at.piece * info_bits rate + (at.bit + t) ≡ bit_of rate at + t = omega arith in
      ap (bit_at blocks) a ∙ sym (joined_in rate blocks at.piece (at.bit + t) h l) ∙ ap (joined rate (piece (block_bytes rate) blocks)) b

  pub byte_there : at.bit + 8 ≤ info_bits rate → val (λ t. bit_at blocks (at.piece * (8 * block_bytes rate) + at.bit + t)) 8 ≡ val joined_from 8
  byte_there l = val_same (λ t. bit_at blocks (at.piece * (8 * block_bytes rate) + at.bit + t)) joined_from 8 (λ t m. bit_there t (omega arith))

  -- one byte, or n that lie together
  pub made_one : (most : ℕ) (before : List ℕ) (i v : ℕ) → 1 ≤ most → i < length before → v ≡ val joined_from 8 → Made (info_bits rate) most before i 1 joined_from (set before i v)
  made_one most before i v m l e = record { some = omega arith; few = omega (arith, info_ge rate); fit = m; laid = laid_one before i v joined_from l e }

  pub made_together : (most : ℕ) (before after : List ℕ) (i n : ℕ) → 1 ≤ n → n ≤ most → at.bit + 8 * n ≤ info_bits rate
      → Laid before i n (λ t. bit_at blocks (at.piece * (8 * block_bytes rate) + at.bit + t)) after → Made (info_bits rate) most before i n joined_from after
  made_together most before after i n one m l laid =
      record {
        some = one;
        few = omega arith;
        fit = m;
        laid = laid_same before after i n (λ t. bit_at blocks (at.piece * (8 * block_bytes rate) + at.bit + t)) joined_from (λ u w. bit_there u (omega arith)) laid;
      }

-- ---- a frame, and the frames

-- a turn of the loop that fills a frame with a stream's bits from x on
pub made_more : (rate x most start u n : ℕ) (stream : ℕ → ℕ) (at : Position) (first before after : List ℕ) → At (info_bits rate) (x + 8 * u) at
    → Laid first start u (λ t. stream (x + t)) before → Made (info_bits rate) most before (start + u) n (λ t. stream (bit_of rate at + t)) after → Laid first start (u + n) (λ t. stream (x + t)) after
made_more rate x most start u n stream at first before after a l m =
    laid_on first before after start u n (λ t. stream (x + t)) (λ t. stream (bit_of rate at + t)) l m.laid (λ t h.
    ap stream (let place = a.place in let y : bit_of rate at + t ≡ x + (8 * u + t) = omega arith in y))

-- one frame more
pub frames_more : (size j : ℕ) (stream : ℕ → ℕ) (first before after : List ℕ) → Laid first 0 (j * size) (λ y. stream (frame_place size y)) before
    → Laid before (j * size) size (λ t. stream (j * span size + marker_bits + t)) after → Laid first 0 ((j + 1) * size) (λ y. stream (frame_place size y)) after
frames_more size j stream first before after l m =
    let z : j * size ≡ 0 + j * size = omega arith in
    let w : j * size + size ≡ (j + 1) * size = omega arith in
    subst (λ (k : ℕ). Laid first 0 k (λ y. stream (frame_place size y)) after) w
    (laid_on first before after 0 (j * size) size (λ y. stream (frame_place size y)) (λ t. stream (j * span size + marker_bits + t)) l
    (subst (λ (k : ℕ). Laid before k size (λ t. stream (j * span size + marker_bits + t)) after) z m)
    (λ t h.
    let e : 8 * (j * size) + t ≡ j * (8 * size) + t = omega (arith, mul_left_comm j 8 size) in
    let q : (8 * (j * size) + t) / (8 * size) ≡ j = ap (λ (y : ℕ). y / (8 * size)) e ∙ digits_div j h in
    let r : (8 * (j * size) + t) % (8 * size) ≡ t = ap (λ (y : ℕ). y % (8 * size)) e ∙ digits_mod j h in
    let p : j * span size + marker_bits + t ≡ j * span size + (marker_bits + t) = omega arith in
    ap stream (p ∙ ap₂ (λ (a b : ℕ). a * span size + (marker_bits + b)) (sym q) (sym r))))
