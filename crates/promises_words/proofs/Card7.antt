-- The proofs of card 7.
use mathlib.Core.Path.{sym, ◌∙◌}
use Prim.Native.Nat.{zero, suc}
use native.Mathlib.Omega.{arith}
use Rattle.sizes.specs.Sizes.{info_bits}
use Rattle.word.proofs.Laws.Exports as word_laws
use Rattle.promises_words.specs.Card7.{Card7, Disregarded, OneWord, WordWriterNumbers, WordReaderNumbers, ReaderZeros}

pub disregarded : Disregarded
disregarded = word_laws.always_written

pub one_word : OneWord
unfolding info_bits
one_word zero a b h = word_laws.word_same 0 a b (omega arith) h
one_word (suc zero) a b h = word_laws.word_same 1 a b (omega arith) h
one_word (suc (suc r)) a b h = (word_laws.past_rates r a).0 ∙ word_laws.word_same 2 a b (omega arith) h ∙ sym (word_laws.past_rates r b).0

pub word_writer_numbers : WordWriterNumbers
word_writer_numbers = word_laws.write_numbers

pub word_reader_numbers : WordReaderNumbers
word_reader_numbers = word_laws.read_numbers

pub reader_zeros : ReaderZeros
reader_zeros rate word = (word_laws.block_packed rate word).spare

-- all of it
pub card_7 : Card7
card_7 = record {
  disregarded = disregarded;
  one_word = one_word;
  word_writer_numbers = word_writer_numbers;
  word_reader_numbers = word_reader_numbers;
  reader_zeros = reader_zeros;
}
