-- The proofs about the questions of a header and its sizes.
use mathlib.Core.Path.{◌≡◌, refl}
use mathlib.Core.Bool.{Bool}
use Prim.Native.Nat.{ℕ, ◌+◌, ◌*◌, ◌^◌, min}
use native.Mathlib.Omega.{arith}
use native.Mathlib.Nat.{le-min, min-le_left, min-le_right}
use lib.ListN.{length, get_or}
use borrow.Author.Tests.{ltb-true, eqb-true, lt-ltb, eq-eqb}
use Rattle.bits.specs.Basics.{up_to}
use Rattle.bits.proofs.Laws.First.{all_pass, none_fails}
use Rattle.sizes.specs.Sizes.{info_bits, block_bytes}
use Rattle.header_sizes.specs.Quantities as sizes
use Rattle.header_questions.specs.Questions.{question2, question3, question4, question5, question6, question7, lent_marks, below, marks_good}
use Rattle.delay.specs.Delay.{area_bytes}
use Rattle.promises_headers.proofs.HeaderBytes.{factor_is}
use Rattle.promises_headers.specs.Questions.{Questions, QuestionsAre, MarksAre, RateSizes, RunSizes}

-- ---- the questions, in figures

pub questions_are : QuestionsAre
unfolding question2 question3 question4 question5 question6 question7 sizes.symbols_per_word sizes.interleaver_delay
questions_are f = (refl, refl, refl, refl, refl, refl, factor_is f.copies)

pub marks_are : MarksAre
unfolding marks_good lent_marks sizes.pulse_order
marks_are f marker =
    let n : ℕ = min (length marker) f.markers in
    let test : ℕ → Bool = below (2 ^ f.bits) marker in (
      λ e i a b. ltb-true (get_or marker i 0) (2 ^ f.bits) (none_fails test n (eqb-true (up_to test 0 n) n e) i (le-min a b)),
      λ h. eq-eqb (up_to test 0 n) n (all_pass test n (λ i l. lt-ltb (get_or marker i 0) (2 ^ f.bits)
          (h i (let a = min-le_left (length marker) f.markers in omega arith) (let b = min-le_right (length marker) f.markers in omega arith)))),
    )

-- ---- the sizes, in figures

pub rate_sizes : RateSizes
unfolding info_bits block_bytes
rate_sizes = (refl, refl, refl, refl, refl, refl, refl)

pub run_sizes : RunSizes
unfolding sizes.marked_bits sizes.symbols_per_word sizes.block_count sizes.fill_bits sizes.interleaver_delay sizes.sequence_length sizes.line_count sizes.symbol_count sizes.sent_symbols sizes.pulse_order sizes.slots_per_symbol sizes.slot_count sizes.slot_bytes sizes.frame_bytes area_bytes
run_sizes f k t s c r m symbols slots ek et es ec er em ey el =
    let marked : t ≡ f.frames * (32 + 8 * f.size) = omega (arith, et) in
    rw (el, ey, em, er, ec, es, marked, ek) (refl, refl, refl, refl, refl, refl, refl, refl, refl, refl, refl, refl)

-- all of it
pub questions : Questions
questions = record {
  questions_are = questions_are;
  marks_are = marks_are;
  rate_sizes = rate_sizes;
  run_sizes = run_sizes;
}
