-- Card 4. "The scheduler hands us up to 211 packed blocks of one rate, back to back. One call should give their words back to back, equal to coding
-- them singly. The lent length gives the count; none, more than 211 or a broken block gets 8. If any block would be refused, the call returns the
-- refusal number of the lowest such block, with the block's index as place, and nothing is written. The same is wanted for reading."
--
-- Piece j of `size` bytes of a slice is `piece size xs j`; a packed block has 626, 941 or 1256 bytes (`block_bytes`), a word 1890. The contracts of
-- `mahyrei_pass_write` and `mahyrei_pass_read` are equations with `pass_write_says`, `words_of`, `pass_read_says` and `blocks_of` of crate `pass`.
use Rattle.std.specs.Prelude.{◌≡◌, true, List, [], ◌∷◌, ℕ, ◌*◌, ◌/◌, ◌≤◌, ◌<◌, ltb, leb, eqb, length}
use Rattle.bits.specs.Basics.{both}
use Rattle.bits.specs.Pack.{Bytes, piece}
use Rattle.answers.specs.Answer.{Done, No, number_of, ask, then, put_in_order, among}
use Rattle.sizes.specs.Sizes.{block_bytes}
use Rattle.word.specs.Word as words
use Rattle.word.specs.Word.{word_read_says, word_write_says}
use Rattle.pass.specs.Pass as passes
use Rattle.pass.specs.Pass.{words_after, blocks_after, pass_read_says, pass_write_says}

-- ---- the questions: the rate, the lengths, then one block or word after another (`put_in_order`: the lowest that is refused gives its number, and its
-- index is the place)

-- "The lent length gives the count", n; "none, more than 211 or a broken block gets 8".
abbrev pub PassWriterAsks : Type 0
PassWriterAsks =
    (rate : ℕ) (blocks : List ℕ) (words_length n : ℕ) → n ≡ length blocks / block_bytes rate
    → pass_write_says rate blocks words_length
    ≡ then (ask (ltb rate 3) 2 0)
    (then (ask (both (leb 1 n) (both (leb n 211) (both (eqb (length blocks) (n * block_bytes rate)) (eqb words_length (n * 1890))))) 8 0)
    (put_in_order n (λ j. word_write_says rate (piece (block_bytes rate) blocks j) 1890)))

abbrev pub PassReaderAsks : Type 0
PassReaderAsks =
    (rate : ℕ) (slice : List ℕ) (blocks_length n : ℕ) → n ≡ length slice / 1890
    → pass_read_says rate slice blocks_length
    ≡ then (ask (ltb rate 3) 2 0)
    (then (ask (both (leb 1 n) (both (leb n 211) (both (eqb blocks_length (n * block_bytes rate)) (eqb (length slice) (n * 1890))))) 8 0)
    (put_in_order n (λ j. word_read_says rate (piece 1890 slice j) (block_bytes rate))))

-- 1 to 211 blocks are accepted at every rate: no block of the right length is refused (Card 7).
abbrev pub PassAccepted : Type 0
PassAccepted =
    (rate : ℕ) (blocks : List ℕ) (n words_length : ℕ) → rate < 3 → 1 ≤ n → n ≤ 211 → length blocks ≡ n * block_bytes rate → words_length ≡ n * 1890
    → pass_write_says rate blocks words_length ≡ Done

-- "If any block would be refused, the call returns the refusal number of the lowest such block, with the block's index as place": of words, since no
-- block is. Word j is refused by some number, and all before it are accepted.
abbrev pub PassLowest : Type 0
PassLowest =
    (rate : ℕ) (slice : List ℕ) (n blocks_length : ℕ) → rate < 3 → 1 ≤ n → n ≤ 211 → blocks_length ≡ n * block_bytes rate → length slice ≡ n * 1890
    → (j : ℕ) → j < n → ((i : ℕ) → i < j → word_read_says rate (piece 1890 slice i) (block_bytes rate) ≡ Done)
    → (number place : ℕ) → word_read_says rate (piece 1890 slice j) (block_bytes rate) ≡ No number place
    → pass_read_says rate slice blocks_length ≡ No number j

-- The numbers that the calls can answer.
abbrev pub PassWriterNumbers : Type 0
PassWriterNumbers = (rate : ℕ) (blocks : List ℕ) (n : ℕ) → among (0 ∷ 2 ∷ 8 ∷ []) (number_of (pass_write_says rate blocks n)) ≡ true

abbrev pub PassReaderNumbers : Type 0
PassReaderNumbers = (rate : ℕ) (slice : List ℕ) (n : ℕ) → among (0 ∷ 2 ∷ 8 ∷ 13 ∷ 14 ∷ 15 ∷ []) (number_of (pass_read_says rate slice n)) ≡ true

-- ---- what the lent slice holds afterwards

-- "Their words back to back, equal to coding them singly": word j, in the slice that was lent, is that of block j, which the word writer accepts too.
abbrev pub PassWrittenSingly : Type 0
PassWrittenSingly =
    (rate : ℕ) (blocks old : List ℕ) → pass_write_says rate blocks (length old) ≡ Done → (j : ℕ) → j < length blocks / block_bytes rate
    → (word_write_says rate (piece (block_bytes rate) blocks j) 1890 ≡ Done)
    × (piece 1890 (words_after rate blocks old) j ≡ words.word_of rate (piece (block_bytes rate) blocks j))

-- "The same is wanted for reading."
abbrev pub PassReadSingly : Type 0
PassReadSingly =
    (rate : ℕ) (slice old : List ℕ) → pass_read_says rate slice (length old) ≡ Done → (j : ℕ) → j < length slice / 1890
    → (word_read_says rate (piece 1890 slice j) (block_bytes rate) ≡ Done)
    × (piece (block_bytes rate) (blocks_after rate slice old) j ≡ words.block_in rate (piece 1890 slice j))

-- "And nothing is written", by a refusal of either call.
abbrev pub RefusedPassWrite : Type 0
RefusedPassWrite =
    (rate : ℕ) (blocks old : List ℕ) (number place : ℕ) → pass_write_says rate blocks (length old) ≡ No number place → words_after rate blocks old ≡ old

abbrev pub RefusedPassRead : Type 0
RefusedPassRead =
    (rate : ℕ) (slice old : List ℕ) (number place : ℕ) → pass_read_says rate slice (length old) ≡ No number place → blocks_after rate slice old ≡ old

-- ---- the two ways undo each other, as those of single words do (Demand2)

-- What was written is read, and gives each block's k bits with spare bits of 0,
abbrev pub PassWrittenRead : Type 0
PassWrittenRead =
    (rate : ℕ) (blocks : List ℕ) (n : ℕ) → pass_write_says rate blocks n ≡ Done
    → (pass_read_says rate (passes.words_of rate blocks) (length blocks) ≡ Done)
    × ((j : ℕ) → j < length blocks / block_bytes rate
    → words.SameBits rate (piece (block_bytes rate) (passes.blocks_of rate (passes.words_of rate blocks)) j) (piece (block_bytes rate) blocks j)
    × words.SpareZero rate (piece (block_bytes rate) (passes.blocks_of rate (passes.words_of rate blocks)) j))

-- every byte where all spare bits were 0.
abbrev pub PassWhole : Type 0
PassWhole =
    (rate : ℕ) (blocks : List ℕ) (n : ℕ) → pass_write_says rate blocks n ≡ Done → Bytes blocks
    → ((j : ℕ) → j < length blocks / block_bytes rate → words.SpareZero rate (piece (block_bytes rate) blocks j))
    → passes.blocks_of rate (passes.words_of rate blocks) ≡ blocks

-- What either call leaves is bytes, and so may be put to the other.
abbrev pub PassBytes : Type 0
PassBytes = (rate : ℕ) (xs : List ℕ) → Bytes (passes.words_of rate xs) × Bytes (passes.blocks_of rate xs)

-- What is read was written.
abbrev pub PassReadWritten : Type 0
PassReadWritten =
    (rate : ℕ) (slice : List ℕ) (n : ℕ) → Bytes slice → pass_read_says rate slice n ≡ Done
    → (pass_write_says rate (passes.blocks_of rate slice) (length slice) ≡ Done)
    × (passes.words_of rate (passes.blocks_of rate slice) ≡ slice)

-- ---- what is promised, all of it: the contract of `card_4`
pub record Card4 : Type 0 where
  pub pass_writer_asks : PassWriterAsks
  pub pass_reader_asks : PassReaderAsks
  pub pass_accepted : PassAccepted
  pub pass_lowest : PassLowest
  pub pass_writer_numbers : PassWriterNumbers
  pub pass_reader_numbers : PassReaderNumbers
  pub pass_written_singly : PassWrittenSingly
  pub pass_read_singly : PassReadSingly
  pub refused_pass_write : RefusedPassWrite
  pub refused_pass_read : RefusedPassRead
  pub pass_written_read : PassWrittenRead
  pub pass_whole : PassWhole
  pub pass_bytes : PassBytes
  pub pass_read_written : PassReadWritten
