-- The uplink: frames of 64 bits to command slots, and back.
--
-- Each frame becomes a codeword of the (128, 64) code. Step 7's sequence is added to it, from its first bit on. Each bit becomes four slots: two of
-- which the first has a pulse for 0 and the second for 1, and two empty guard slots. So a codeblock has 512 slots, which are 64 bytes with no spare
-- bits, and codeblocks follow one another with nothing between them.
use Rattle.std.specs.Prelude.{Bool, ◌||◌, List, ℕ, ◌+◌, ◌*◌, ◌/◌, ◌%◌, leb, eqb, length}
use Rattle.bits.specs.Basics.{bool, both, up_to}
use Rattle.bits.specs.Pack.{val, bit_at, bytes_of}
use Rattle.answers.specs.Answer.{Answer, after, ask, then}
use Rattle.randomizer.specs.Randomizer.{randomize}
use Rattle.ldpc.specs.Code.{codeword, is_codeword}

-- ---- frames to slots

-- bit j of frame i
abbrev pub frame_bit : List ℕ → ℕ → ℕ → ℕ
frame_bit frames i j = bit_at frames (64 * i + j)

-- the 128 bits of codeblock i: the codeword of frame i with step 7's sequence added, from its start
unfoldable pub codeblock : List ℕ → ℕ → ℕ → ℕ
codeblock frames i = randomize (codeword (frame_bit frames i))

-- bit g of all codeblocks, one after another
unfoldable pub sent_bit : List ℕ → ℕ → ℕ
sent_bit frames g = codeblock frames (g / 128) (g % 128)

-- slot x of the bits f, four a bit: 1000 for 0, 0100 for 1
unfoldable pub slot_of : (ℕ → ℕ) → ℕ → ℕ
slot_of f x = bool (eqb (x % 4) (f (x / 4)))

-- how many frames, and codeblocks, so many bytes hold
abbrev pub frame_count : List ℕ → ℕ
frame_count frames = length frames / 8

abbrev pub codeblock_count : List ℕ → ℕ
codeblock_count slots = length slots / 64

unfoldable pub uplink_slots_of : List ℕ → List ℕ
uplink_slots_of frames = bytes_of (64 * frame_count frames) (slot_of (sent_bit frames))

-- ---- slots to frames

-- the four slots of group g, the first highest
unfoldable pub group : List ℕ → ℕ → ℕ
group slots g = val (λ t. bit_at slots (4 * g + t)) 4

-- 1000 or 0100: nothing else is a bit
unfoldable pub is_bit : List ℕ → ℕ → Bool
is_bit slots g = eqb (group slots g) 8 || eqb (group slots g) 4

-- the 128 bits of codeblock i with the sequence removed: a bit is 1 where its second slot has the pulse
unfoldable pub received : List ℕ → ℕ → ℕ → ℕ
received slots i = randomize (λ j. bit_at slots (4 * (128 * i + j) + 1))

unfoldable pub uplink_frames_of : List ℕ → List ℕ
uplink_frames_of slots = bytes_of (8 * codeblock_count slots) (λ y. received slots (y / 64) (y % 64))

-- ---- the questions

-- 8: are there 1 to 64 codeblocks, of 8 frame bytes and 64 slot bytes each?
unfoldable pub uplink_lengths_right : ℕ → ℕ → ℕ → Bool
uplink_lengths_right count frames_length slots_length =
    both (both (leb 1 count) (leb count 64)) (both (eqb frames_length (8 * count)) (eqb slots_length (64 * count)))

-- 28: is each group a bit? The first that is not, counted over all codeblocks
unfoldable pub first_no_bit : List ℕ → ℕ
first_no_bit slots = up_to (is_bit slots) 0 (128 * codeblock_count slots)

-- 29: does each codeblock pass the parity checks? The first that fails
unfoldable pub first_bad_block : List ℕ → ℕ
first_bad_block slots = up_to (λ i. is_codeword (received slots i)) 0 (codeblock_count slots)

unfoldable pub uplink_write_says : List ℕ → ℕ → Answer
uplink_write_says frames slots_length = ask (uplink_lengths_right (frame_count frames) (length frames) slots_length) 8 0

-- 28 and 29, of slots of the right length
unfoldable pub uplink_slots_say : List ℕ → Answer
uplink_slots_say slots =
    then (ask (eqb (first_no_bit slots) (128 * codeblock_count slots)) 28 (first_no_bit slots))
    (ask (eqb (first_bad_block slots) (codeblock_count slots)) 29 (first_bad_block slots))

unfoldable pub uplink_read_says : List ℕ → ℕ → Answer
uplink_read_says slots frames_length = then (ask (uplink_lengths_right (codeblock_count slots) frames_length (length slots)) 8 0) (uplink_slots_say slots)

-- what the slice lent for the result holds afterwards: the result on acceptance, otherwise what it held
abbrev pub uplink_slots_after : List ℕ → List ℕ → List ℕ
uplink_slots_after frames old = after (uplink_write_says frames (length old)) (uplink_slots_of frames) old

abbrev pub uplink_frames_after : List ℕ → List ℕ → List ℕ
uplink_frames_after slots old = after (uplink_read_says slots (length old)) (uplink_frames_of slots) old
