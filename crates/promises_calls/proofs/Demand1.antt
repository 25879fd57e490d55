-- The proofs of demand 1.
use mathlib.Core.Path.{refl, ap, ap₂, ◌∙◌}
use Prim.Native.Nat.{min}
use lib.ListN.{length, get_or}
use Rattle.bits.specs.Pack.{cut}
use Rattle.bits.proofs.Laws.Pack.{cut_in}
use Rattle.bits.proofs.Laws.Table.{get_or_tab}
use Rattle.answers.specs.Answer.{Answer, then, after}
use Rattle.header_sizes.specs.Quantities as sizes
use Rattle.header_questions.specs.Questions.{lent_marks, run_says}
use Rattle.parameters.specs.Parameters.{parameters_of}
use Rattle.plan.specs.Plan.{plan_of, plan_in}
use Rattle.plan.specs.Lengths.{run_lengths_right, call_says}
use Rattle.word.specs.Word as words
use Rattle.word.proofs.Laws.Answers as word_laws
use Rattle.header.specs.Header.{fields_of}
use Rattle.run.specs.Run as runs
use Rattle.run.specs.Run.{run_word_says, run_read_says, run_write_says}
use Rattle.run.proofs.Laws.Steps.{asked_in_order, called_in_order}
use Rattle.promises_calls.specs.Demand1.{Demand1, LengthsAre, RunAnswers, PlanIs, SlicesAfter, ToldCode, WordWriterAsks, WordReaderAsks, RunWriterAsks, RunReaderAsks, RefusedWordWrite, RefusedWordRead, RefusedRunWrite, RefusedRunRead}

pub word_writer_asks : WordWriterAsks
word_writer_asks = word_laws.write_asks

pub word_reader_asks : WordReaderAsks
word_reader_asks = word_laws.read_asks

pub run_writer_asks : RunWriterAsks
unfolding run_write_says
run_writer_asks header marker frames n = called_in_order header marker (length frames) n

pub run_reader_asks : RunReaderAsks
unfolding run_read_says runs.words_say run_word_says
run_reader_asks header marker slots n f p ef ep =
    rw (ef, ep)
    (ap₂ (λ (a b : Answer). then a b) (called_in_order header marker n (length slots)) (asked_in_order (fields_of header) (plan_in header marker) slots))

pub lengths_are : LengthsAre
unfolding run_lengths_right sizes.frame_bytes
lengths_are f marker_length frames_length slots_length = refl

pub run_answers : RunAnswers
unfolding run_says call_says
run_answers header marker frames_length slots_length = (refl, refl)

pub plan_is : PlanIs
unfolding plan_of parameters_of lent_marks sizes.layout_of sizes.pulse_order sizes.slots_per_symbol
plan_is header marker f p ef ep =
    rw (ep, ef) (
      refl,
      refl,
      refl,
      refl,
      refl,
      refl,
      refl,
      refl,
      refl,
      refl,
      λ i few l. get_or_tab 32 (cut (min (length marker) (fields_of header).markers) (λ i. get_or marker i 0)) i few ∙ cut_in (min (length marker) (fields_of header).markers) (λ i. get_or marker i 0) i l,
      refl,
    )

pub slices_after : SlicesAfter
slices_after rate bit s n q side block word header marker frames slots eight capture fades old =
    (refl, refl, refl, refl, refl, refl, refl, refl, refl, refl, refl, refl, refl, refl)

pub refused_word_write : RefusedWordWrite
refused_word_write rate block old number place e = ap (λ (a : Answer). after a (words.word_of rate block) old) e

pub refused_word_read : RefusedWordRead
refused_word_read rate word old number place e = ap (λ (a : Answer). after a (words.block_in rate word) old) e

pub refused_run_write : RefusedRunWrite
refused_run_write header marker frames old number place e = ap (λ (a : Answer). after a (runs.run_of header marker frames) old) e

pub refused_run_read : RefusedRunRead
refused_run_read header marker slots old number place e = ap (λ (a : Answer). after a (runs.frames_read header marker slots) old) e

pub told_code : ToldCode
told_code area call = refl

-- all of it
pub demand_1 : Demand1
demand_1 = record {
  word_writer_asks = word_writer_asks;
  word_reader_asks = word_reader_asks;
  run_writer_asks = run_writer_asks;
  run_reader_asks = run_reader_asks;
  lengths_are = lengths_are;
  run_answers = run_answers;
  plan_is = plan_is;
  slices_after = slices_after;
  refused_word_write = refused_word_write;
  refused_word_read = refused_word_read;
  refused_run_write = refused_run_write;
  refused_run_read = refused_run_read;
  told_code = told_code;
}
