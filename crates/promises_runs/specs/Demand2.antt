-- Demand 2. "The writer gives the slots that the specification defines": the contract of `mahyrei_run_write` is an equation with `run_of`, and `stream_is` to `slot_is` say how that is made,
-- step by step. "The reader accepts a slot buffer only if some frames are written to it under the same header and marker, accepts every such buffer, and returns those frames. For single
-- words and their blocks the same holds."
--
-- The definitions are those that the contracts of the calls cite (crate `c_calls`): what a call says (`run_write_says`, `word_read_says` and so on), the slots of frames
-- (`run_of`), the frames in slots (`frames_read`), the word of a block (`word_of`) and the block in a word (`block_in`). `Bytes` says that the elements of a list are
-- bytes, as they are in every slice. `SameBits` says of two packed blocks that their k bits are the same, `SpareZero` of one that its two spare bits are 0. "Only if
-- some frames are written to it" holds where the header's factor is 1, and Card5 says what replaces it for the others; all else holds for every factor.
use Rattle.std.specs.Prelude.{◌≡◌, List, ℕ, ◌+◌, ◌-◌, ◌*◌, ◌/◌, ◌%◌, ◌^◌, ◌≤◌, ◌<◌, eqb, length, get_or}
use Rattle.bits.specs.Basics.{bool}
use Rattle.bits.specs.Pack.{bit_at, val, Bytes}
use Rattle.answers.specs.Answer.{Done}
use Rattle.sizes.specs.Sizes.{info_bits, block_bytes, word_bytes}
use Rattle.word.specs.Word as words
use Rattle.word.specs.Word.{word_read_says, word_write_says}
use Rattle.header.specs.Header.{fields_of}
use Rattle.header_sizes.specs.Quantities.{block_count, symbol_count}
use Rattle.run.specs.Run as runs
use Rattle.run.specs.Steps as steps
use Rattle.word.specs.After.{word_after, block_after}
use Rattle.run.specs.Run.{slots_after, frames_after, run_read_says, run_write_says}

-- ---- "The writer gives the slots that the specification defines": step by step, each made of the one before (`steps`), for F, A, m, N, B, W and the factor of
-- the header. A word is `words.word_of` of its block, and Card3 has how that is made.

-- Step 1: 1ACFFC1D before each of the A frames of F bytes, the first bit highest, and zeros after the last; k bits of this are a block.
abbrev pub StreamIs : Type 0
StreamIs =
    (header marker frames : List ℕ) (F A : ℕ) → F ≡ (fields_of header).size → A ≡ (fields_of header).frames
    → ((j r : ℕ) → j < A → r < 32 → steps.step1 header marker frames (j * (32 + 8 * F) + r) ≡ 0x1ACFFC1D / 2 ^ (31 - r) % 2)
    × ((j r : ℕ) → j < A → r < 8 * F → steps.step1 header marker frames (j * (32 + 8 * F) + (32 + r)) ≡ bit_at frames (j * (8 * F) + r))
    × ((x : ℕ) → A * (32 + 8 * F) ≤ x → steps.step1 header marker frames x ≡ 0)

abbrev pub BlockIs : Type 0
BlockIs =
    (header marker frames : List ℕ) (k : ℕ) → k ≡ info_bits (fields_of header).rate
    → (j i : ℕ) → i < k → bit_at (steps.block header marker frames j) i ≡ steps.step1 header marker frames (j * k + i)

abbrev pub WordIs : Type 0
WordIs =
    (header marker frames : List ℕ) (j : ℕ) → steps.word header marker frames j ≡ words.word_of (fields_of header).rate (steps.block header marker frames j)

-- Step 8: each m bits make a symbol, the first bit highest, and S = 15120 / m symbols are a word.
abbrev pub SymbolIs : Type 0
SymbolIs =
    (header marker frames : List ℕ) (m S : ℕ) → m ≡ (fields_of header).bits → S ≡ 15120 / m
    → (t : ℕ) → steps.step8 header marker frames t ≡ val (λ i. bit_at (steps.word header marker frames (t / S)) (m * (t % S) + i)) m

-- Step 9: symbol t of all C · S goes to place t + (t mod N) · B · N; places not hit hold 0.
abbrev pub PlaceIs : Type 0
PlaceIs =
    (header marker frames : List ℕ) (N B total : ℕ) → N ≡ (fields_of header).rows → B ≡ (fields_of header).step
    → total ≡ block_count (fields_of header) * (15120 / (fields_of header).bits)
    → ((t : ℕ) → t < total → steps.standing header marker frames (t + t % N * (B * N)) ≡ steps.step8 header marker frames t)
    × ((x : ℕ) → ((t : ℕ) → t < total → t + t % N * (B * N) ≡ x → ⊥) → steps.standing header marker frames x ≡ 0)

-- Step 10: before every S symbols come the W marker symbols, as they were lent.
abbrev pub LineIs : Type 0
LineIs =
    (header marker frames : List ℕ) (n : ℕ) → run_write_says header marker frames n ≡ Done
    → (W S : ℕ) → W ≡ (fields_of header).markers → S ≡ 15120 / (fields_of header).bits
    → ((line w : ℕ) → w < W → steps.step10 header marker frames (line * (S + W) + w) ≡ get_or marker w 0)
    × ((line i : ℕ) → i < S → steps.step10 header marker frames (line * (S + W) + (W + i)) ≡ steps.standing header marker frames (line * S + i))

-- Symbol q becomes M slots with one pulse at slot q, then M/4 empty guard slots; each is sent as often as the factor says. Spare bits are 0.
abbrev pub SlotIs : Type 0
SlotIs =
    (header marker frames : List ℕ) (M G K symbols : ℕ) → M ≡ 2 ^ (fields_of header).bits → G ≡ M + M / 4 → K ≡ (fields_of header).copies → symbols ≡ symbol_count (fields_of header)
    → ((s c r : ℕ) → s < symbols → c < K → r < G
    → bit_at (runs.run_of header marker frames) ((s * K + c) * G + r) ≡ bool (eqb r (steps.step10 header marker frames s)))
    × ((x : ℕ) → symbols * K * G ≤ x → bit_at (runs.run_of header marker frames) x ≡ 0)
    × (length (runs.run_of header marker frames) ≡ (symbols * K * G + 7) / 8)

-- ---- runs

-- What either call leaves is bytes, and so may be put to the other.
abbrev pub RunBytes : Type 0
RunBytes = (header marker xs : List ℕ) → Bytes (runs.run_of header marker xs) × Bytes (runs.frames_read header marker xs)

-- If frames are written to a slot buffer, the reader accepts that buffer and returns those frames.
abbrev pub RunWrittenRead : Type 0
RunWrittenRead =
    (header marker frames : List ℕ) (n : ℕ) → Bytes frames → run_write_says header marker frames n ≡ Done
    → (run_read_says header marker (runs.run_of header marker frames) (length frames) ≡ Done)
    × (runs.frames_read header marker (runs.run_of header marker frames) ≡ frames)

-- If the reader accepts a slot buffer with some frames, each symbol being sent once, the writer writes that very buffer for those frames.
abbrev pub RunReadWritten : Type 0
RunReadWritten =
    (header marker slots : List ℕ) (n : ℕ) → (fields_of header).copies ≡ 1 → Bytes slots → run_read_says header marker slots n ≡ Done
    → (run_write_says header marker (runs.frames_read header marker slots) (length slots) ≡ Done)
    × (runs.run_of header marker (runs.frames_read header marker slots) ≡ slots)

-- So two different sets of frames never give one buffer.
abbrev pub RunOne : Type 0
RunOne =
    (header marker a b : List ℕ) (n m : ℕ) → Bytes a → Bytes b → run_write_says header marker a n ≡ Done → run_write_says header marker b m ≡ Done
    → runs.run_of header marker a ≡ runs.run_of header marker b → a ≡ b

-- The same of the slices that two calls in a row are lent: what `mahyrei_run_write` leaves in the slots, `mahyrei_run_read` turns back into the
-- frames.
abbrev pub RunThereAndBack : Type 0
RunThereAndBack =
    (header marker frames slots back : List ℕ) → Bytes frames → run_write_says header marker frames (length slots) ≡ Done → length back ≡ length frames
    → frames_after header marker (slots_after header marker frames slots) back ≡ frames

-- ---- words

-- What either call leaves is bytes.
abbrev pub WordBytes : Type 0
WordBytes = (rate : ℕ) (xs : List ℕ) → Bytes (words.word_of rate xs) × Bytes (words.block_in rate xs)

-- What it means for two blocks to have the same k bits, and for a block's spare bits to be 0
abbrev pub SameBitsIs : Type 0
SameBitsIs =
    (rate : ℕ) (a b : List ℕ)
    → (words.SameBits rate a b → (i : ℕ) → i < info_bits rate → bit_at a i ≡ bit_at b i)
    × (((i : ℕ) → i < info_bits rate → bit_at a i ≡ bit_at b i) → words.SameBits rate a b)

abbrev pub SpareZeroIs : Type 0
SpareZeroIs =
    (rate : ℕ) (block : List ℕ)
    → (words.SpareZero rate block → (i : ℕ) → info_bits rate ≤ i → i < 8 * block_bytes rate → bit_at block i ≡ 0)
    × (((i : ℕ) → info_bits rate ≤ i → i < 8 * block_bytes rate → bit_at block i ≡ 0) → words.SpareZero rate block)

-- If a block is written to a word, the reader accepts that word and returns that block: its k bits, with spare bits of 0.
abbrev pub WordWrittenRead : Type 0
WordWrittenRead =
    (rate : ℕ) (block : List ℕ) → word_write_says rate block word_bytes ≡ Done
    → (word_read_says rate (words.word_of rate block) (length block) ≡ Done)
    × words.SameBits rate (words.block_in rate (words.word_of rate block)) block
    × words.SpareZero rate (words.block_in rate (words.word_of rate block))

-- Where its spare bits were 0, that is every byte of it.
abbrev pub WordWhole : Type 0
WordWhole =
    (rate : ℕ) (block : List ℕ) → Bytes block → word_write_says rate block word_bytes ≡ Done → words.SpareZero rate block
    → words.block_in rate (words.word_of rate block) ≡ block

-- If the reader accepts a word with some block, the writer writes that very word for that block.
abbrev pub WordReadWritten : Type 0
WordReadWritten =
    (rate : ℕ) (word : List ℕ) (n : ℕ) → Bytes word → word_read_says rate word n ≡ Done
    → (word_write_says rate (words.block_in rate word) (length word) ≡ Done)
    × (words.word_of rate (words.block_in rate word) ≡ word)

-- So two blocks of one rate that differ in one of the k bits never give one word.
abbrev pub WordOne : Type 0
WordOne =
    (rate : ℕ) (a b : List ℕ) → words.word_of rate a ≡ words.word_of rate b → words.SameBits rate a b

-- The same of the lent slices.
abbrev pub WordThereAndBack : Type 0
WordThereAndBack =
    (rate : ℕ) (block word back : List ℕ) → word_write_says rate block (length word) ≡ Done → length back ≡ length block
    → words.SameBits rate (block_after rate (word_after rate block word) back) block
    × words.SpareZero rate (block_after rate (word_after rate block word) back)

-- ---- what is promised, all of it: the contract of `demand_2`
pub record Demand2 : Type 0 where
  pub stream_is : StreamIs
  pub block_is : BlockIs
  pub word_is : WordIs
  pub symbol_is : SymbolIs
  pub place_is : PlaceIs
  pub line_is : LineIs
  pub slot_is : SlotIs
  pub run_bytes : RunBytes
  pub run_written_read : RunWrittenRead
  pub run_read_written : RunReadWritten
  pub run_one : RunOne
  pub run_there_and_back : RunThereAndBack
  pub word_bytes_lem : WordBytes
  pub same_bits_is : SameBitsIs
  pub spare_zero_is : SpareZeroIs
  pub word_written_read : WordWrittenRead
  pub word_whole : WordWhole
  pub word_read_written : WordReadWritten
  pub word_one : WordOne
  pub word_there_and_back : WordThereAndBack
