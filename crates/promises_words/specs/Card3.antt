-- Card 3. "The book the agencies have now published (CCSDS 142.0-B) puts the randomizer on the information block, before the check is added, and marks
-- frames with the 32 bits 1ACFFC1D (hexadecimal). Build that order and drop the draft's: step 7 moves ahead of step 2, restarts at each block, and the
-- accumulator's output is the word. Marked frames are 8F + 32 bits long. Question 16 looks for the new marker. The sums, distances and flips that the
-- customer was promised hold for the new words."
--
-- The last sentence is `sums`, `distances` and `flips_found` of Demand3, which kept their text.
use Rattle.std.specs.Prelude.{◌≡◌, List, [], ◌∷◌, ℕ, ◌+◌, ◌-◌, ◌*◌, ◌/◌, ◌%◌, ◌^◌, ◌≤◌, ◌<◌, ltb, eqb}
use Rattle.std.specs.Int.Bits.{bit_xor}
use Rattle.bits.specs.Basics.{pick}
use Rattle.bits.specs.Pack.{val, bit_at, bytes_of, cut}
use Rattle.sizes.specs.Sizes.{info_bits, block_bytes, span}
use Rattle.crc.specs.Check.{register, checked}
use Rattle.convolution.specs.Code.{terminated, encode, decode}
use Rattle.interleaver.specs.Interleaver.{interleave, deinterleave}
use Rattle.accumulator.specs.Accumulator.{accumulate, differentiate}
use Rattle.randomizer.specs.Randomizer.{sequence, randomize}
use Rattle.word.specs.Word.{word_of, coded_in, block_in}
use Rattle.stream_writer.specs.Stream as streams
use Rattle.stream_reader.specs.Frames.{frame_marked}

-- "Step 7 moves ahead of step 2, restarts at each block, and the accumulator's output is the word": steps 7, 2, 3, 4, 5 and 6 of one block, whose
-- bits get the sequence from its start, and nothing after them.
abbrev pub WordIsMade : Type 0
WordIsMade =
    (rate : ℕ) (block : List ℕ)
    → word_of rate block ≡ bytes_of 1890 (accumulate (interleave (encode rate (terminated (info_bits rate + 32) (checked (info_bits rate) (randomize (bit_at block)))))))

-- ---- what each of these steps is

-- the bit d places before bit i, 0 before the first
abbrev pub earlier : ℕ → (ℕ → ℕ) → ℕ → ℕ
earlier d x i = pick (ltb i d) 0 (x (i - d))

-- Step 7: add a sequence whose first eight bits are 1; each later bit is the sum of those 1, 3, 5 and 8 places before it.
abbrev pub RandomizedIs : Type 0
RandomizedIs = (x : ℕ → ℕ) (i : ℕ) → randomize x i ≡ bit_xor (x i) (sequence i)

abbrev pub SequenceIs : Type 0
SequenceIs =
    ((i : ℕ) → i < 8 → sequence i ≡ 1)
    × ((i : ℕ) → sequence (i + 8) ≡ bit_xor (bit_xor (sequence (i + 7)) (sequence (i + 5))) (bit_xor (sequence (i + 3)) (sequence i)))

-- Step 2: a 32-bit register starts as all ones. For each block bit, its top bit plus the block bit is the feedback; it shifts up by one, and 20044009 is
-- added where the feedback is 1. It follows the k bits, top bit first, not inverted.
abbrev pub RegisterIs : Type 0
RegisterIs =
    (x : ℕ → ℕ)
    → (register x 0 ≡ 0xFFFFFFFF)
    × ((n : ℕ) → register x (n + 1) ≡ bit_xor (register x n * 2 % 2 ^ 32) (bit_xor (register x n / 2 ^ 31) (x n) * 0x20044009))

abbrev pub CheckedIs : Type 0
CheckedIs =
    (k : ℕ) (x : ℕ → ℕ) (i : ℕ) → (i < k → checked k x i ≡ x i) × (i < 32 → checked k x (k + i) ≡ register x k / 2 ^ (31 - i) % 2)

-- Step 3: zeros follow.
abbrev pub TerminatedIs : Type 0
TerminatedIs = (n : ℕ) (x : ℕ → ℕ) (i : ℕ) → (i < n → terminated n x i ≡ x i) × (n ≤ i → terminated n x i ≡ 0)

-- Step 4: outputs 1+D², 1+D+D², and 1+D+D² again. All three are kept at 1/3, the first two at 1/2. At 2/3 the first two are kept for bits 0, 2, 4 and so
-- on, the second alone for the others.
abbrev pub first_output : (ℕ → ℕ) → ℕ → ℕ
first_output x i = bit_xor (x i) (earlier 2 x i)

abbrev pub second_output : (ℕ → ℕ) → ℕ → ℕ
second_output x i = bit_xor (bit_xor (x i) (earlier 1 x i)) (earlier 2 x i)

abbrev pub CodeIs : Type 0
CodeIs =
    (x : ℕ → ℕ) (i : ℕ)
    → (encode 0 x (3 * i) ≡ first_output x i) × (encode 0 x (3 * i + 1) ≡ second_output x i) × (encode 0 x (3 * i + 2) ≡ second_output x i)
    × (encode 1 x (2 * i) ≡ first_output x i) × (encode 1 x (2 * i + 1) ≡ second_output x i)
    × (encode 2 x (3 * i) ≡ first_output x (2 * i)) × (encode 2 x (3 * i + 1) ≡ second_output x (2 * i)) × (encode 2 x (3 * i + 2) ≡ second_output x (2 * i + 1))

-- Step 5: output place j takes coded bit (11j + 210j²) mod 15,120.
abbrev pub InterleavedIs : Type 0
InterleavedIs = (c : ℕ → ℕ) (j : ℕ) → interleave c j ≡ c ((11 * j + 210 * (j * j)) % 15120)

-- Step 6: each output is the input plus the output before it, starting from 0.
abbrev pub AccumulatedIs : Type 0
AccumulatedIs = (x : ℕ → ℕ) (j : ℕ) → accumulate x j ≡ bit_xor (x j) (earlier 1 (accumulate x) j)

-- ---- and back

-- The coded bits taken back out of a word: steps 6 and 5 undone. The block: steps 4 and 7 undone, its k bits, packed.
abbrev pub CodedTakenOut : Type 0
CodedTakenOut = (word : List ℕ) → coded_in word ≡ deinterleave (differentiate (bit_at word))

abbrev pub BlockTakenOut : Type 0
BlockTakenOut =
    (rate : ℕ) (word : List ℕ) → block_in rate word ≡ bytes_of (block_bytes rate) (cut (info_bits rate) (randomize (decode rate (coded_in word))))

-- In figures: the coded bit that output place j took is the sum of bit j of the word and the bit before it; and the input bits are read from the second
-- output alone, which is coded bit 3i + 1 at 1/3, 2i + 1 at 1/2, and 3i/2 + 1 or 3(i−1)/2 + 2 at 2/3.
abbrev pub CodedBitIs : Type 0
CodedBitIs = (word : List ℕ) (j : ℕ) → j < 15120 → coded_in word ((11 * j + 210 * (j * j)) % 15120) ≡ bit_xor (bit_at word j) (earlier 1 (bit_at word) j)

abbrev pub DecodedIs : Type 0
DecodedIs =
    (c : ℕ → ℕ) (i : ℕ)
    → (c (3 * i + 1) ≡ second_output (decode 0 c) i)
    × (c (2 * i + 1) ≡ second_output (decode 1 c) i)
    × (c (3 * (i / 2) + 1 + i % 2) ≡ second_output (decode 2 c) i)

-- "Marked frames are 8F + 32 bits long."
abbrev pub MarkedFrame : Type 0
MarkedFrame = (size : ℕ) → span size ≡ 8 * size + 32

-- The marker is 1ACFFC1D, first bit highest: the stream of one frame of one byte, A4.
abbrev pub OneMarkedFrame : Type 0
OneMarkedFrame = bytes_of 6 (streams.stream_bit 1 1 (0xA4 ∷ [])) ≡ 0x1A ∷ 0xCF ∷ 0xFC ∷ 0x1D ∷ 0xA4 ∷ 0x00 ∷ []

-- "Question 16 looks for the new marker", before frame j of F bytes each.
abbrev pub Question16 : Type 0
Question16 = (size : ℕ) (stream : ℕ → ℕ) (j : ℕ) → frame_marked size stream j ≡ eqb (val (λ r. stream (j * (32 + 8 * size) + r)) 32) 0x1ACFFC1D

-- ---- what is promised, all of it: the contract of `card_3`
pub record Card3 : Type 0 where
  pub word_is_made : WordIsMade
  pub randomized_is : RandomizedIs
  pub sequence_is : SequenceIs
  pub register_is : RegisterIs
  pub checked_is : CheckedIs
  pub terminated_is : TerminatedIs
  pub code_is : CodeIs
  pub interleaved_is : InterleavedIs
  pub accumulated_is : AccumulatedIs
  pub coded_taken_out : CodedTakenOut
  pub block_taken_out : BlockTakenOut
  pub coded_bit_is : CodedBitIs
  pub decoded_is : DecodedIs
  pub marked_frame : MarkedFrame
  pub one_marked_frame : OneMarkedFrame
  pub question_16 : Question16
