-- Step 1 bit by bit: markers, frames and fill, and the blocks that they are cut into.
use mathlib.Core.Path.{◌≡◌, refl, ◌∙◌}
use mathlib.Core.List.{[], ◌∷◌, List}
use mathlib.Core.Bool.{Bool, true, false}
use Prim.Native.Nat.{ℕ, ◌+◌, ◌-◌, ◌*◌, ◌/◌, ◌%◌, ◌≤◌, ◌<◌}
use native.Mathlib.Omega.{arith}
use lib.Arith.{digits_lt, digits_div, digits_mod}
use lib.Dec.{ltb}
use lib.ListN.{length}
use borrow.Author.Tests.{lt-ltb, le-ltb}
use Rattle.bits.specs.Basics.{tab, pick}
use Rattle.bits.specs.Pack.{val, bit_at, bytes_of, Bits, Bytes, cut}
use Rattle.bits.proofs.Laws.Pack.{bit_lt, bit_bytes, bytes_are, bytes_same, length_bytes, val_bits, cut_in, cut_past, cut_bits, cut_same}
use Rattle.sizes.specs.Sizes.{frame_marker, marker_bits, span, info_bits, block_bytes}
use Rattle.sizes.proofs.Laws.Rate.{block_size}
use Rattle.stream_writer.specs.Stream.{marker_bit, stream_bit, block_at}

-- The stream of one frame of one byte, A4: the marker stands before the frame, its first bit highest; zeros follow.
pub one_frame : bytes_of 6 (stream_bit 1 1 (0xA4 ∷ [])) ≡ 0x1A ∷ 0xCF ∷ 0xFC ∷ 0x1D ∷ 0xA4 ∷ 0x00 ∷ []
unfolding bytes_of tab val stream_bit marker_bit bit_at
one_frame = refl

-- Laws of the stream and of its blocks.

-- ---- the stream

pick_bit : (b : Bool) (x y : ℕ) → x < 2 → y < 2 → pick b x y < 2
pick_bit true x y hx hy = hx
pick_bit false x y hx hy = hy

pub marker_bits_lem : Bits marker_bit
unfolding marker_bit
marker_bits_lem r = omega arith

-- they make it
pub marker_val : val marker_bit marker_bits ≡ frame_marker
unfolding marker_bit
marker_val = val_bits frame_marker marker_bits (omega arith)

pub stream_bits : (size count : ℕ) (frames : List ℕ) → Bits (stream_bit size count frames)
unfolding stream_bit
stream_bits size count frames x =
    let r : ℕ = x % span size in
    let place : ℕ = x / span size * (8 * size) + (r - marker_bits) in
    pick_bit (ltb x (count * span size)) (pick (ltb r marker_bits) (marker_bit r) (bit_at frames place)) 0
    (pick_bit (ltb r marker_bits) (marker_bit r) (bit_at frames place) (marker_bits_lem r) (bit_lt frames place))
    (omega arith)

-- the marker before frame j, the frame itself, and the zeros after the last
pub stream_mark : (size count : ℕ) (frames : List ℕ) (j r : ℕ) → j < count → r < marker_bits → stream_bit size count frames (j * span size + r) ≡ marker_bit r
unfolding stream_bit
stream_mark size count frames j r h l =
    let w : r < span size = omega arith in
    rw (lt-ltb (j * span size + r) (count * span size) (digits_lt h w), digits_mod j w, lt-ltb r marker_bits l) refl

pub stream_frame : (size count : ℕ) (frames : List ℕ) (j r : ℕ) → j < count → r < 8 * size
    → stream_bit size count frames (j * span size + (marker_bits + r)) ≡ bit_at frames (j * (8 * size) + r)
unfolding stream_bit
stream_frame size count frames j r h l =
    let w : marker_bits + r < span size = omega arith in
    let e : marker_bits + r - marker_bits ≡ r = omega arith in
    rw (lt-ltb (j * span size + (marker_bits + r)) (count * span size) (digits_lt h w), digits_div j w, digits_mod j w, le-ltb (marker_bits + r) marker_bits (omega arith), e) refl

pub stream_fill : (size count : ℕ) (frames : List ℕ) (x : ℕ) → count * span size ≤ x → stream_bit size count frames x ≡ 0
unfolding stream_bit
stream_fill size count frames x h = rw (le-ltb x (count * span size) h) refl

-- ---- its blocks

-- the k bits of block j
pub block_bit : (rate : ℕ) (stream : ℕ → ℕ) → rate < 3 → Bits stream → (j i : ℕ) → i < info_bits rate → bit_at (block_at rate stream j) i ≡ stream (j * info_bits rate + i)
unfolding block_at
block_bit rate stream h b j i l =
    let f : ℕ → ℕ = λ i. stream (j * info_bits rate + i) in
    let inside : i < 8 * block_bytes rate = omega (arith, block_size rate h) in
    bit_bytes (block_bytes rate) (cut (info_bits rate) f) (cut_bits (info_bits rate) f (λ i. b (j * info_bits rate + i))) i inside
    ∙ cut_in (info_bits rate) f i l

-- a block is packed: its length, its bytes, its spare bits
pub block_packed : (rate : ℕ) (stream : ℕ → ℕ) → rate < 3 → Bits stream → (j : ℕ)
    → (length (block_at rate stream j) ≡ block_bytes rate) × Bytes (block_at rate stream j) × ((i : ℕ) → info_bits rate ≤ i → i < 8 * block_bytes rate → bit_at (block_at rate stream j) i ≡ 0)
unfolding block_at
block_packed rate stream h b j =
    let f : ℕ → ℕ = λ i. stream (j * info_bits rate + i) in
    let fb : Bits (cut (info_bits rate) f) = cut_bits (info_bits rate) f (λ i. b (j * info_bits rate + i)) in (
      length_bytes (block_bytes rate) (cut (info_bits rate) f),
      bytes_are (block_bytes rate) (cut (info_bits rate) f) fb,
      λ i l r. bit_bytes (block_bytes rate) (cut (info_bits rate) f) fb i r ∙ cut_past (info_bits rate) f i l,
    )

-- streams that agree so far have the same blocks so far
pub block_same : (rate pieces : ℕ) (s t : ℕ → ℕ) → ((x : ℕ) → x < pieces * info_bits rate → s x ≡ t x) → (j : ℕ) → j < pieces → block_at rate s j ≡ block_at rate t j
unfolding block_at
block_same rate pieces s t h j l =
    let k : ℕ = info_bits rate in
    bytes_same (block_bytes rate) (cut k (λ i. s (j * k + i))) (cut k (λ i. t (j * k + i))) (λ i _.
    cut_same k (λ i. s (j * k + i)) (λ i. t (j * k + i)) (λ i m. h (j * k + i) (digits_lt l m)) i)
