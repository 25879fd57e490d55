-- What fits: the stream's length, and the bits of a frame in the frames.
use mathlib.Core.Path.{◌≡◌}
use mathlib.Core.List.{List}
use Prim.Native.Nat.{ℕ, ◌+◌, ◌-◌, ◌*◌, ◌/◌, ◌%◌, ◌≤◌, ◌<◌}
use native.Mathlib.Omega.{arith}
use native.Mathlib.Nat.{mod-lt, div-lt_iff_lt-mul, mul_left_comm, mul-le-mul}
use lib.Arith.{digits_lt}
use lib.ListN.{length}
use Rattle.sizes.specs.Sizes.{marker_bits, span}
use Rattle.stream_writer.specs.Inner.{Frames}

pub stream_room : (size count : ℕ) (frames : List ℕ) → Frames size count frames → count * span size ≤ 64 * (marker_bits + 16384)
stream_room size count frames f =
    let h : span size ≤ marker_bits + 16384 = let g = f.size2 in omega arith in
    mul-le-mul f.count2 h

-- bit r of frame j lies in the frames, and they are few
pub bit_inside : (size count : ℕ) (frames : List ℕ) (j r : ℕ) → Frames size count frames → j < count → r < 8 * size
    → (j * (8 * size) + r < 8 * length frames) × (8 * length frames ≤ 1048576)
bit_inside size count frames j r f h l =
    let d = digits_lt h l in
    let b : count * size ≤ 64 * 2048 = mul-le-mul f.count2 f.size2 in
    let e : length frames ≡ count * size = f.long in
    let g : count * (8 * size) ≡ 8 * (count * size) = mul_left_comm count 8 size in
    (omega arith, omega arith)

-- the bit of the stream that is no marker's
pub frame_inside : (size count : ℕ) (frames : List ℕ) (x : ℕ) → Frames size count frames → x < count * span size → marker_bits ≤ x % span size
    → (x / span size * (8 * size) + (x % span size - marker_bits) < 8 * length frames) × (8 * length frames ≤ 1048576)
frame_inside size count frames x f h l =
    let s0 : 0 < span size = omega arith in
    let q : x / span size < count = (div-lt_iff_lt-mul s0).1 h in
    let r : x % span size - marker_bits < 8 * size = let m = mod-lt x s0 in omega arith in
    bit_inside size count frames (x / span size) (x % span size - marker_bits) f q r
