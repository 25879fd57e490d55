-- Card 14. The uplink. "64-bit frames, the (128, 64) LDPC code whose table the team takes from CCSDS 231.0-B, step 7's sequence restarted at each
-- codeblock, then for each bit two slots (pulse first for 0, second for 1) and two empty guard slots. Codeblocks follow one another, 1 to 64 in a
-- call; the lent length gives the count, and another count or a broken frame or codeblock gets 8. Reading is by hard check: codewords are accepted,
-- all else refused, and writer and reader undo each other. Turned away: 28 for a group that is no bit, with its place, after 9; then 29 for a
-- failed parity check, with its codeblock."
--
-- The definitions are those that the contracts of `mahyrei_uplink_write` and `mahyrei_uplink_read` cite (crate `c_calls`): what a call says (`uplink_write_says`,
-- `uplink_read_says`), the slots of frames (`uplink_slots_of`), the frames in slots (`uplink_frames_of`). Bit i of packed bytes is `bit_at`; `codeword u` is the 128
-- bits of the codeword of the 64 bits u, `sequence` step 7's. `received slots i` is the 128 bits of codeblock i as they are read, with the sequence removed. A
-- codeblock is 512 slots, which are 64 bytes with no spare bits, so 9 has nothing to ask.
use Rattle.std.specs.Prelude.{◌≡◌, true, false, List, [], ◌∷◌, ℕ, ◌+◌, ◌-◌, ◌*◌, ◌/◌, ◌%◌, ◌^◌, ◌≤◌, ◌<◌, leb, eqb, length, get_or}
use Rattle.std.specs.Int.Bits.{bit_xor}
use Rattle.bits.specs.Basics.{bool, both, up_to}
use Rattle.bits.specs.Pack.{Bits, Bytes, bit_at, piece}
use Rattle.bits.specs.Count.{xor_sum}
use Rattle.answers.specs.Answer.{Done, No, number_of, ask, then, among}
use Rattle.randomizer.specs.Randomizer.{sequence}
use Rattle.ldpc.specs.Code.{parity_bit, codeword, is_codeword}
use Rattle.uplink.specs.Uplink.{uplink_slots_of, is_bit, received, uplink_frames_of, uplink_write_says, uplink_read_says, uplink_slots_after, uplink_frames_after}

-- ---- the code

-- A codeword is the frame's 64 bits, and then its 64 parity bits, which `parity_bit` makes of the rows of the table,
abbrev pub FrameFirst : Type 0
FrameFirst = (u : ℕ → ℕ) (j : ℕ) → j < 64 → codeword u j ≡ u j

abbrev pub ParityBehind : Type 0
ParityBehind = (u : ℕ → ℕ) (t : ℕ) → codeword u (64 + t) ≡ parity_bit u t

-- here in figures: the parity bits of bits 0, 16, 32 and 48, first bit highest; those of the fifteen bits after each are those of the bit before,
-- each of the four pieces of 16 turned right by one
abbrev pub ParityIs : Type 0
ParityIs =
    (u : ℕ → ℕ) (t : ℕ)
    → parity_bit u t
    ≡ xor_sum (λ i. u i * (get_or (0x0E69166BEF4C0BC2 ∷ 0x7766137EBB248418 ∷ 0xC480FEB9CD53A713 ∷ 0x4EAA22FA465EEA11 ∷ []) (i / 16) 0
    / 2 ^ (63 - (t / 16 * 16 + (t % 16 + 16 - i % 16) % 16)) % 2)) 64

-- and the table's code is that of the printed check matrix: 128 bits pass all 64 checks (`is_codeword`) exactly if the last 64 are the parity bits of
-- the first 64.
abbrev pub CodewordsExactly : Type 0
CodewordsExactly =
    (x : ℕ → ℕ) → Bits x
    → (is_codeword x ≡ true → (t : ℕ) → t < 64 → x (64 + t) ≡ parity_bit x t)
    × (((t : ℕ) → t < 64 → x (64 + t) ≡ parity_bit x t) → is_codeword x ≡ true)

-- ---- the slots

-- "Step 7's sequence restarted at each codeblock, then for each bit two slots (pulse first for 0, second for 1) and two empty guard slots": slot t of
-- the four of bit j of codeblock i has a pulse exactly if t is that bit, which is a bit of the codeword of frame i plus bit j of the sequence.
abbrev pub UplinkSlotIs : Type 0
UplinkSlotIs =
    (frames : List ℕ) (i j t : ℕ) → i < length frames / 8 → j < 128 → t < 4
    → bit_at (uplink_slots_of frames) (4 * (128 * i + j) + t) ≡ bool (eqb t (bit_xor (codeword (λ k. bit_at frames (64 * i + k)) j) (sequence j)))

-- The two guard slots are empty.
abbrev pub GuardsEmpty : Type 0
GuardsEmpty =
    (frames : List ℕ) (i j t : ℕ) → i < length frames / 8 → j < 128 → 2 ≤ t → t < 4
    → bit_at (uplink_slots_of frames) (4 * (128 * i + j) + t) ≡ 0

-- "Codeblocks follow one another": the slots have 64 bytes a frame, and the 64 of codeblock i are those that frame i alone is written to.
abbrev pub SlotsLong : Type 0
SlotsLong = (frames : List ℕ) → length (uplink_slots_of frames) ≡ 64 * (length frames / 8)

abbrev pub CodeblockAlone : Type 0
CodeblockAlone = (frames : List ℕ) (i : ℕ) → i < length frames / 8 → piece 64 (uplink_slots_of frames) i ≡ uplink_slots_of (piece 8 frames i)

-- ---- the questions

-- "1 to 64 in a call; the lent length gives the count, and another count or a broken frame or codeblock gets 8": the writer counts frames of 8 bytes,
abbrev pub WriterAsks : Type 0
WriterAsks =
    (frames : List ℕ) (m n : ℕ) → n ≡ length frames / 8
    → uplink_write_says frames m ≡ ask (both (both (leb 1 n) (leb n 64)) (both (eqb (length frames) (8 * n)) (eqb m (64 * n)))) 8 0

-- the reader codeblocks of 64 bytes; then 28 with the first group that is no bit, counted over all codeblocks, and then 29 with the first codeblock
-- that fails a parity check, each over the whole buffer.
abbrev pub ReaderAsks : Type 0
ReaderAsks =
    (slots : List ℕ) (m n : ℕ) → n ≡ length slots / 64
    → uplink_read_says slots m
    ≡ then (ask (both (both (leb 1 n) (leb n 64)) (both (eqb m (8 * n)) (eqb (length slots) (64 * n)))) 8 0)
    (then (ask (eqb (up_to (is_bit slots) 0 (128 * n)) (128 * n)) 28 (up_to (is_bit slots) 0 (128 * n)))
    (ask (eqb (up_to (λ i. is_codeword (received slots i)) 0 n) n) 29 (up_to (λ i. is_codeword (received slots i)) 0 n)))

-- So 1 to 64 frames of 8 bytes are written, whatever they hold.
abbrev pub AlwaysWritten : Type 0
AlwaysWritten = (frames : List ℕ) (m n : ℕ) → 1 ≤ n → n ≤ 64 → length frames ≡ 8 * n → m ≡ 64 * n → uplink_write_says frames m ≡ Done

-- What is received is what the second slots say, with the sequence removed.
abbrev pub ReceivedIs : Type 0
ReceivedIs = (slots : List ℕ) (i j : ℕ) → received slots i j ≡ bit_xor (bit_at slots (4 * (128 * i + j) + 1)) (sequence j)

-- A group is a bit exactly if its four slots are 1000 or 0100.
abbrev pub GroupIsBit : Type 0
GroupIsBit =
    (slots : List ℕ) (g : ℕ)
    → (is_bit slots g ≡ true → (t : ℕ) → t < 4 → bit_at slots (4 * g + t) ≡ bool (eqb t (bit_at slots (4 * g + 1))))
    × (((t : ℕ) → t < 4 → bit_at slots (4 * g + t) ≡ bool (eqb t (bit_at slots (4 * g + 1)))) → is_bit slots g ≡ true)

-- "28 for a group that is no bit, with its place": the first such, at most 8,191.
abbrev pub BadGroup : Type 0
BadGroup =
    (slots : List ℕ) (m p : ℕ) → uplink_read_says slots m ≡ No 28 p
    → (p < 8192) × (is_bit slots p ≡ false) × ((g : ℕ) → g < p → is_bit slots g ≡ true)

-- "Then 29 for a failed parity check, with its codeblock": the first such, at most 63, where every group of the buffer is a bit.
abbrev pub BadCodeblock : Type 0
BadCodeblock =
    (slots : List ℕ) (m p : ℕ) → uplink_read_says slots m ≡ No 29 p
    → (p < 64) × ((g : ℕ) → g < 128 * (length slots / 64) → is_bit slots g ≡ true)
    × (is_codeword (received slots p) ≡ false) × ((i : ℕ) → i < p → is_codeword (received slots i) ≡ true)

-- "Codewords are accepted, all else refused": of slots of the right length, exactly those in which every group is a bit and every codeblock a codeword.
abbrev pub AcceptedExactly : Type 0
AcceptedExactly =
    (slots : List ℕ) (m n : ℕ) → 1 ≤ n → n ≤ 64 → length slots ≡ 64 * n → m ≡ 8 * n
    → (uplink_read_says slots m ≡ Done → ((g : ℕ) → g < 128 * n → is_bit slots g ≡ true) × ((i : ℕ) → i < n → is_codeword (received slots i) ≡ true))
    × (((g : ℕ) → g < 128 * n → is_bit slots g ≡ true) → ((i : ℕ) → i < n → is_codeword (received slots i) ≡ true) → uplink_read_says slots m ≡ Done)

-- No other number, and no 17.
abbrev pub UplinkWriterNumbers : Type 0
UplinkWriterNumbers = (frames : List ℕ) (m : ℕ) → among (0 ∷ 8 ∷ []) (number_of (uplink_write_says frames m)) ≡ true

abbrev pub UplinkReaderNumbers : Type 0
UplinkReaderNumbers = (slots : List ℕ) (m : ℕ) → among (0 ∷ 8 ∷ 28 ∷ 29 ∷ []) (number_of (uplink_read_says slots m)) ≡ true

abbrev pub UplinkWriteNot17 : Type 0
UplinkWriteNot17 = (frames : List ℕ) (m : ℕ) → number_of (uplink_write_says frames m) ≡ 17 → ⊥

abbrev pub UplinkReadNot17 : Type 0
UplinkReadNot17 = (slots : List ℕ) (m : ℕ) → number_of (uplink_read_says slots m) ≡ 17 → ⊥

-- ---- "writer and reader undo each other"

-- If frames are written to slots, the reader accepts those slots and returns those frames.
abbrev pub WrittenRead : Type 0
WrittenRead =
    (frames : List ℕ) (m : ℕ) → Bytes frames → uplink_write_says frames m ≡ Done
    → (uplink_read_says (uplink_slots_of frames) (length frames) ≡ Done) × (uplink_frames_of (uplink_slots_of frames) ≡ frames)

-- If the reader accepts slots with some frames, the writer writes those very slots for those frames.
abbrev pub ReadWritten : Type 0
ReadWritten =
    (slots : List ℕ) (m : ℕ) → Bytes slots → uplink_read_says slots m ≡ Done
    → (uplink_write_says (uplink_frames_of slots) (length slots) ≡ Done) × (uplink_slots_of (uplink_frames_of slots) ≡ slots)

-- What either call leaves is bytes, and so may be put to the other.
abbrev pub UplinkBytes : Type 0
UplinkBytes = (xs : List ℕ) → Bytes (uplink_slots_of xs) × Bytes (uplink_frames_of xs)

-- So two different sets of frames never give the same slots.
abbrev pub UplinkOne : Type 0
UplinkOne = (a b : List ℕ) (m n : ℕ) → Bytes a → Bytes b → uplink_write_says a m ≡ Done → uplink_write_says b n ≡ Done → uplink_slots_of a ≡ uplink_slots_of b → a ≡ b

-- The same of the slices that two calls in a row are lent: there and back,
abbrev pub ThereAndBack : Type 0
ThereAndBack =
    (frames slots back : List ℕ) → Bytes frames → uplink_write_says frames (length slots) ≡ Done → length back ≡ length frames
    → uplink_frames_after (uplink_slots_after frames slots) back ≡ frames

-- and back and there.
abbrev pub BackAndThere : Type 0
BackAndThere =
    (slots frames again : List ℕ) → Bytes slots → uplink_read_says slots (length frames) ≡ Done → length again ≡ length slots
    → uplink_slots_after (uplink_frames_after slots frames) again ≡ slots

-- ---- a refused call changes nothing

abbrev pub RefusedWrite : Type 0
RefusedWrite = (frames old : List ℕ) (number place : ℕ) → uplink_write_says frames (length old) ≡ No number place → uplink_slots_after frames old ≡ old

abbrev pub RefusedRead : Type 0
RefusedRead = (slots old : List ℕ) (number place : ℕ) → uplink_read_says slots (length old) ≡ No number place → uplink_frames_after slots old ≡ old

-- ---- what is promised, all of it: the contract of `card_14`
pub record Card14 : Type 0 where
  pub frame_first : FrameFirst
  pub parity_behind : ParityBehind
  pub parity_is : ParityIs
  pub codewords_exactly : CodewordsExactly
  pub uplink_slot_is : UplinkSlotIs
  pub guards_empty : GuardsEmpty
  pub slots_long : SlotsLong
  pub codeblock_alone : CodeblockAlone
  pub writer_asks : WriterAsks
  pub reader_asks : ReaderAsks
  pub always_written : AlwaysWritten
  pub received_is : ReceivedIs
  pub group_is_bit : GroupIsBit
  pub bad_group : BadGroup
  pub bad_codeblock : BadCodeblock
  pub accepted_exactly : AcceptedExactly
  pub uplink_writer_numbers : UplinkWriterNumbers
  pub uplink_reader_numbers : UplinkReaderNumbers
  pub uplink_write_not_17 : UplinkWriteNot17
  pub uplink_read_not_17 : UplinkReadNot17
  pub written_read : WrittenRead
  pub read_written : ReadWritten
  pub uplink_bytes : UplinkBytes
  pub uplink_one : UplinkOne
  pub there_and_back : ThereAndBack
  pub back_and_there : BackAndThere
  pub refused_write : RefusedWrite
  pub refused_read : RefusedRead
