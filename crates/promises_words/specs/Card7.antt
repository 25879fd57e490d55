-- Card 7. "The frame bus now puts its own status in the two spare bits of a packed block. The word writer must disregard them, and question 9 then
-- covers slot buffers only. The word reader still writes them as zero. Callers may rely on it that two packings of the same k bits give one word; the
-- sum rule, the distances and the block that a read returns are meant over those k bits."
--
-- The sum rule and the distances are `sums` and `distances` of Demand3; the block that a read returns is `word_written_read` and `word_whole` of
-- Demand2. A packed block has 626, 941 or 1256 bytes (`block_bytes`); its first k bits are the information block (`info_bits`) and the two after them
-- are spare. `SpareZero` says that these are 0.
use Rattle.std.specs.Prelude.{◌≡◌, true, List, [], ◌∷◌, ℕ, ◌<◌, length}
use Rattle.bits.specs.Pack.{bit_at}
use Rattle.answers.specs.Answer.{Done, number_of, among}
use Rattle.sizes.specs.Sizes.{info_bits, block_bytes}
use Rattle.word.specs.Word.{SpareZero, word_of, block_in, word_write_says, word_read_says}

-- "The word writer must disregard them": it accepts every block of the right length, whatever the spare bits hold,
abbrev pub Disregarded : Type 0
Disregarded = (rate : ℕ) (block : List ℕ) → rate < 3 → length block ≡ block_bytes rate → word_write_says rate block 1890 ≡ Done

-- and "two packings of the same k bits give one word".
abbrev pub OneWord : Type 0
OneWord = (rate : ℕ) (a b : List ℕ) → ((i : ℕ) → i < info_bits rate → bit_at a i ≡ bit_at b i) → word_of rate a ≡ word_of rate b

-- "Question 9 then covers slot buffers only": no word call answers 9.
abbrev pub WordWriterNumbers : Type 0
WordWriterNumbers = (rate : ℕ) (block : List ℕ) (n : ℕ) → among (0 ∷ 2 ∷ 8 ∷ []) (number_of (word_write_says rate block n)) ≡ true

abbrev pub WordReaderNumbers : Type 0
WordReaderNumbers = (rate : ℕ) (word : List ℕ) (n : ℕ) → among (0 ∷ 2 ∷ 8 ∷ 13 ∷ 14 ∷ 15 ∷ []) (number_of (word_read_says rate word n)) ≡ true

-- "The word reader still writes them as zero", of any word.
abbrev pub ReaderZeros : Type 0
ReaderZeros = (rate : ℕ) (word : List ℕ) → SpareZero rate (block_in rate word)

-- ---- what is promised, all of it: the contract of `card_7`
pub record Card7 : Type 0 where
  pub disregarded : Disregarded
  pub one_word : OneWord
  pub word_writer_numbers : WordWriterNumbers
  pub word_reader_numbers : WordReaderNumbers
  pub reader_zeros : ReaderZeros
