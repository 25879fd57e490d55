-- The proofs of card 4.
use mathlib.Core.Path.{refl, ap, ◌∙◌}
use lib.ListN.{length}
use Rattle.bits.specs.Pack.{piece}
use Rattle.answers.specs.Answer.{Answer, No, number_of, after, is_done}
use Rattle.sizes.specs.Sizes.{block_bytes}
use Rattle.pass.specs.Pass as passes
use Rattle.pass.specs.Pass.{pass_word_says, pass_read_says, pass_write_says}
use Rattle.pass.proofs.Laws.Answers as answer_laws
use Rattle.pass.proofs.Laws.Return as pass_laws
use Rattle.promises_words.specs.Card4.{Card4, PassWriterAsks, PassReaderAsks, PassAccepted, PassLowest, PassWriterNumbers, PassReaderNumbers, PassWrittenSingly, PassReadSingly, RefusedPassWrite, RefusedPassRead, PassWrittenRead, PassWhole, PassBytes, PassReadWritten}

pub pass_writer_asks : PassWriterAsks
unfolding pass_write_says passes.pass_lengths_right
pass_writer_asks rate blocks words_length n e = rw e refl

pub pass_reader_asks : PassReaderAsks
unfolding pass_read_says passes.pass_lengths_right
pass_reader_asks rate slice blocks_length n e = rw e refl

pub pass_accepted : PassAccepted
pass_accepted = answer_laws.write_all

pub pass_lowest : PassLowest
pass_lowest rate slice n blocks_length h some few eb ew j l before number place e =
    answer_laws.read_right rate slice n blocks_length h some few eb ew
    ∙ answer_laws.order_lowest n j (pass_word_says rate slice) l before (ap is_done e)
    ∙ ap (λ (a : Answer). No (number_of a) j) e

pub pass_writer_numbers : PassWriterNumbers
pass_writer_numbers = answer_laws.write_numbers

pub pass_reader_numbers : PassReaderNumbers
pass_reader_numbers = answer_laws.read_numbers

pub pass_written_singly : PassWrittenSingly
pass_written_singly rate blocks old e j l = (
  (answer_laws.write_accepted rate blocks (length old) e).each j l,
  ap (λ (a : Answer). piece 1890 (after a (passes.words_of rate blocks) old) j) e ∙ pass_laws.words_piece rate blocks j l,
)

pub pass_read_singly : PassReadSingly
pass_read_singly rate slice old e j l = (
  (answer_laws.read_accepted rate slice (length old) e).each j l,
  ap (λ (a : Answer). piece (block_bytes rate) (after a (passes.blocks_of rate slice) old) j) e ∙ pass_laws.blocks_piece rate slice j l,
)

pub refused_pass_write : RefusedPassWrite
refused_pass_write rate blocks old number place e = ap (λ (a : Answer). after a (passes.words_of rate blocks) old) e

pub refused_pass_read : RefusedPassRead
refused_pass_read rate slice old number place e = ap (λ (a : Answer). after a (passes.blocks_of rate slice) old) e

pub pass_written_read : PassWrittenRead
pass_written_read = pass_laws.written_read

pub pass_whole : PassWhole
pass_whole = pass_laws.whole_back

pub pass_bytes : PassBytes
pass_bytes rate xs = (pass_laws.words_bytes rate xs, pass_laws.blocks_bytes rate xs)

pub pass_read_written : PassReadWritten
pass_read_written = pass_laws.read_written

-- all of it
pub card_4 : Card4
card_4 = record {
  pass_writer_asks = pass_writer_asks;
  pass_reader_asks = pass_reader_asks;
  pass_accepted = pass_accepted;
  pass_lowest = pass_lowest;
  pass_writer_numbers = pass_writer_numbers;
  pass_reader_numbers = pass_reader_numbers;
  pass_written_singly = pass_written_singly;
  pass_read_singly = pass_read_singly;
  refused_pass_write = refused_pass_write;
  refused_pass_read = refused_pass_read;
  pass_written_read = pass_written_read;
  pass_whole = pass_whole;
  pass_bytes = pass_bytes;
  pass_read_written = pass_read_written;
}
