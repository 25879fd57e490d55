-- Step 1: the stream of the marked frames, and its blocks.
use Rattle.std.specs.Prelude.{List, ℕ, ◌+◌, ◌-◌, ◌*◌, ◌/◌, ◌%◌, ◌^◌, ltb}
use Rattle.bits.specs.Basics.{pick}
use Rattle.bits.specs.Pack.{bit_at, bytes_of, cut}
use Rattle.sizes.specs.Sizes.{frame_marker, marker_bits, span, info_bits, block_bytes}

-- bit r of the frame marker
unfoldable pub marker_bit : ℕ → ℕ
marker_bit r = frame_marker / 2 ^ (marker_bits - 1 - r) % 2

-- bit x of the stream of `count` (A) marked frames of `size` (F) bytes; 0 after the last
unfoldable pub stream_bit : ℕ → ℕ → List ℕ → ℕ → ℕ
stream_bit size count frames x =
    pick (ltb x (count * span size))
    (pick (ltb (x % span size) marker_bits)
    (marker_bit (x % span size))
    (bit_at frames (x / span size * (8 * size) + (x % span size - marker_bits))))
    0

-- block j of a stream: its k bits, packed, and two spare zeros
unfoldable pub block_at : ℕ → (ℕ → ℕ) → ℕ → List ℕ
block_at rate stream j = bytes_of (block_bytes rate) (cut (info_bits rate) (λ i. stream (j * info_bits rate + i)))
