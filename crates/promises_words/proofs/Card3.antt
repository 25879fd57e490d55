-- The proofs of card 3.
use mathlib.Core.Path.{◌≡◌, refl, sym, ap, ap₂, ◌∙◌}
use Prim.Native.Nat.{ℕ, zero, suc, ◌+◌, ◌-◌, ◌*◌, ◌/◌, ◌%◌, ◌≤◌}
use native.Mathlib.Omega.{arith}
use native.Mathlib.Numerals.{add-one}
use lib.Bits.{bit_xor, xor_zero_r, xor_comm}
use borrow.Author.Tests.{le-ltb}
use Rattle.bits.proofs.Laws.Sum.{xor_assoc, xor_cancel_r}
use Rattle.bits.specs.Pack.{bit_at}
use Rattle.bits.proofs.Laws.Pack.{cut_in, cut_past}
use Rattle.sizes.specs.Sizes.{inputs_per, coded_per}
use Rattle.crc.specs.Check.{advance, register, check_bit}
use Rattle.crc.proofs.Laws.Check.{checked_block_lem, checked_check}
use Rattle.convolution.specs.Code.{delay, recover, second_place, decode}
use Rattle.convolution.specs.Code as code
use Rattle.convolution.proofs.Laws.Code as code_laws
use Rattle.interleaver.specs.Interleaver.{source_bit, interleave, deinterleave}
use Rattle.interleaver.proofs.Laws.Interleaver.{output_source}
use Rattle.accumulator.specs.Accumulator.{accumulate, differentiate}
use Rattle.randomizer.specs.Randomizer.{randomize}
use Rattle.randomizer.proofs.Laws.Randomizer.{sequence_start, sequence_later}
use Rattle.word.proofs.Laws.Word as word_laws
use Rattle.stream_writer.proofs.Laws.Stream as streams_laws
use Rattle.stream_reader.specs.Frames.{frame_marked}
use Rattle.promises_words.specs.Card3.{Card3, WordIsMade, RandomizedIs, SequenceIs, RegisterIs, CheckedIs, TerminatedIs, CodeIs, InterleavedIs, AccumulatedIs, CodedTakenOut, BlockTakenOut, CodedBitIs, DecodedIs, MarkedFrame, OneMarkedFrame, Question16, earlier, first_output, second_output}

pub word_is_made : WordIsMade
word_is_made = word_laws.word_steps

pub randomized_is : RandomizedIs
unfolding randomize
randomized_is x i = refl

pub sequence_is : SequenceIs
sequence_is = (sequence_start, sequence_later)

pub register_is : RegisterIs
unfolding register advance
register_is x = (refl, λ n. rw (add-one n) refl)

pub checked_is : CheckedIs
unfolding check_bit
checked_is k x i = (
  λ l. checked_block_lem k x i l,
  λ l. let e : k + i - k ≡ i = omega arith in checked_check k x (k + i) (omega arith) ∙ ap (check_bit (register x k)) e,
)

pub terminated_is : TerminatedIs
terminated_is n x i = (cut_in n x i, cut_past n x i)

-- the bit before, and the one before that
before_one : (x : ℕ → ℕ) (i : ℕ) → delay x i ≡ earlier 1 x i
unfolding delay
before_one x zero = refl
before_one x (suc i) =
    let h : 1 ≤ suc i = omega arith in
    let e : suc i - 1 ≡ i = omega arith in
    rw (le-ltb (suc i) 1 h, e) refl

before_two : (x : ℕ → ℕ) (i : ℕ) → delay (delay x) i ≡ earlier 2 x i
unfolding delay
before_two x zero = refl
before_two x (suc zero) = refl
before_two x (suc (suc i)) =
    let h : 2 ≤ suc (suc i) = omega arith in
    let e : suc (suc i) - 2 ≡ i = omega arith in
    rw (le-ltb (suc (suc i)) 2 h, e) refl

-- the outputs
first_is : (x : ℕ → ℕ) (i : ℕ) → code.first x i ≡ first_output x i
unfolding code.first
first_is x i = ap (bit_xor (x i)) (before_two x i)

second_is : (x : ℕ → ℕ) (i : ℕ) → code.second x i ≡ second_output x i
unfolding code.second
second_is x i = ap₂ (λ (a b : ℕ). bit_xor (bit_xor (x i) a) b) (before_one x i) (before_two x i)

pub code_is : CodeIs
code_is x i = (
  code_laws.third_first x i ∙ first_is x i,
  code_laws.third_second x i ∙ second_is x i,
  code_laws.third_third x i ∙ second_is x i,
  code_laws.half_first x i ∙ first_is x i,
  code_laws.half_second x i ∙ second_is x i,
  code_laws.two_first x i ∙ first_is x (2 * i),
  code_laws.two_second x i ∙ second_is x (2 * i),
  code_laws.two_odd x i ∙ second_is x (2 * i + 1),
)

pub interleaved_is : InterleavedIs
unfolding interleave source_bit
interleaved_is c j = refl

pub accumulated_is : AccumulatedIs
unfolding accumulate
accumulated_is x zero = sym (xor_zero_r (x 0))
accumulated_is x (suc j) =
    let h : 1 ≤ suc j = omega arith in
    let e : suc j - 1 ≡ j = omega arith in
    rw (le-ltb (suc j) 1 h, e) refl

-- step 6 undone
differences_are : (g : ℕ → ℕ) (j : ℕ) → differentiate g j ≡ bit_xor (g j) (earlier 1 g j)
unfolding differentiate
differences_are g zero = sym (xor_zero_r (g 0))
differences_are g (suc j) =
    let h : 1 ≤ suc j = omega arith in
    let e : suc j - 1 ≡ j = omega arith in
    rw (le-ltb (suc j) 1 h, e) refl

pub coded_bit_is : CodedBitIs
unfolding source_bit deinterleave
coded_bit_is word j l =
    ap (λ (f : ℕ → ℕ). f (source_bit j)) (word_laws.coded_steps word)
    ∙ ap (differentiate (bit_at word)) (output_source j l)
    ∙ differences_are (bit_at word) j

-- the second output of the input bits that it was read from
second_back : (s : ℕ → ℕ) (i : ℕ) → code.second (recover s) i ≡ s i
unfolding code.second recover delay
second_back s zero = xor_zero_r (bit_xor (s 0) 0) ∙ xor_zero_r (s 0)
second_back s (suc zero) = xor_zero_r (bit_xor (bit_xor (s 1) (s 0)) (s 0)) ∙ xor_cancel_r (s 1) (s 0)
second_back s (suc (suc i)) = around (s (suc (suc i))) (recover s (suc i)) (recover s i)
  where
    around : (a b c : ℕ) → bit_xor (bit_xor (bit_xor (bit_xor a b) c) b) c ≡ a
    around a b c =
        xor_assoc (bit_xor (bit_xor a b) c) b c
        ∙ ap (λ (d : ℕ). bit_xor (bit_xor (bit_xor a b) c) d) (xor_comm b c)
        ∙ sym (xor_assoc (bit_xor (bit_xor a b) c) c b)
        ∙ ap (λ (d : ℕ). bit_xor d b) (xor_cancel_r (bit_xor a b) c)
        ∙ xor_cancel_r a b

decoded : (rate : ℕ) (c : ℕ → ℕ) (i at : ℕ) → at ≡ second_place rate i → c at ≡ second_output (decode rate c) i
unfolding decode
decoded rate c i at e = ap c e ∙ sym (second_back (λ k. c (second_place rate k)) i) ∙ second_is (decode rate c) i

pub decoded_is : DecodedIs
unfolding second_place coded_per inputs_per
decoded_is c i = (decoded 0 c i (3 * i + 1) (omega arith), decoded 1 c i (2 * i + 1) (omega arith), decoded 2 c i (3 * (i / 2) + 1 + i % 2) (omega arith))

pub coded_taken_out : CodedTakenOut
coded_taken_out = word_laws.coded_steps

pub block_taken_out : BlockTakenOut
block_taken_out = word_laws.block_steps

pub marked_frame : MarkedFrame
marked_frame size = omega arith

pub one_marked_frame : OneMarkedFrame
one_marked_frame = streams_laws.one_frame

pub question_16 : Question16
unfolding frame_marked
question_16 size stream j = refl

-- all of it
pub card_3 : Card3
card_3 = record {
  word_is_made = word_is_made;
  randomized_is = randomized_is;
  sequence_is = sequence_is;
  register_is = register_is;
  checked_is = checked_is;
  terminated_is = terminated_is;
  code_is = code_is;
  interleaved_is = interleaved_is;
  accumulated_is = accumulated_is;
  coded_taken_out = coded_taken_out;
  block_taken_out = block_taken_out;
  coded_bit_is = coded_bit_is;
  decoded_is = decoded_is;
  marked_frame = marked_frame;
  one_marked_frame = one_marked_frame;
  question_16 = question_16;
}
