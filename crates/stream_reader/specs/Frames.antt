-- Step 1 undone: the stream that blocks hold, questions 16 and 18, and the frames in it.
use Rattle.std.specs.Prelude.{Bool, List, ℕ, ◌+◌, ◌*◌, ◌/◌, ◌%◌, eqb}
use Rattle.answers.specs.Answer.{Answer, ask, then}
use Rattle.bits.specs.Basics.{up_to}
use Rattle.bits.specs.Pack.{val, bit_at, bytes_of}
use Rattle.sizes.specs.Sizes.{frame_marker, marker_bits, span, info_bits}

-- bit x of blocks that are joined
unfoldable pub joined : ℕ → (ℕ → List ℕ) → ℕ → ℕ
joined rate block x = bit_at (block (x / info_bits rate)) (x % info_bits rate)

-- question 16: is the frame marker before frame j? And the first frame that it is not before
unfoldable pub frame_marked : ℕ → (ℕ → ℕ) → ℕ → Bool
frame_marked size stream j = eqb (val (λ r. stream (j * span size + r)) marker_bits) frame_marker

unfoldable pub first_unmarked : ℕ → ℕ → (ℕ → ℕ) → ℕ
first_unmarked size count stream = up_to (frame_marked size stream) 0 count

-- question 18: are all bits after the frames, up to `end`, zero?
abbrev pub zero_at : (ℕ → ℕ) → ℕ → Bool
zero_at stream x = eqb (stream x) 0

unfoldable pub fill_zero : ℕ → ℕ → ℕ → (ℕ → ℕ) → Bool
fill_zero size count end stream = eqb (up_to (zero_at stream) (count * span size) end) end

-- the answer: 16 with the frame as its place, then 18
unfoldable pub frames_say : ℕ → ℕ → ℕ → (ℕ → ℕ) → Answer
frames_say size count end stream =
    then (ask (eqb (first_unmarked size count stream) count) 16 (first_unmarked size count stream))
    (ask (fill_zero size count end stream) 18 0)

-- the place in the stream of bit y of the frames
abbrev pub frame_place : ℕ → ℕ → ℕ
frame_place size y = y / (8 * size) * span size + (marker_bits + y % (8 * size))

-- the frames in a stream
unfoldable pub frames_in : ℕ → ℕ → (ℕ → ℕ) → List ℕ
frames_in size count stream = bytes_of (count * size) (λ y. stream (frame_place size y))
