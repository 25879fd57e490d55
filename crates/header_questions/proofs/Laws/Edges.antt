-- The edges of the questions, which antt computes.
use mathlib.Core.Path.{◌≡◌, refl}
use mathlib.Core.Bool.{true, false}
use mathlib.Core.List.{[], ◌∷◌, map}
use Prim.Native.Nat.{ℕ}
use Rattle.bits.specs.Basics.{first_from}
use Rattle.header.specs.declared.Fields.{Fields}
use Rattle.header_sizes.specs.Quantities.{pulse_order, symbols_per_word, interleaver_delay}
use Rattle.answers.specs.Answer.{Done, No}
use Rattle.header_questions.specs.Questions.{question2, question3, question4, question5, question6, question7, lent_marks, marks_good, fields_say}

-- with m = 8 and N = 10
abbrev edge : ℕ → ℕ → ℕ → Fields
edge step size markers = record { rate = 1; bits = 8; rows = 10; step = step; size = size; markers = markers; frames = 2; copies = 1 }

-- B = 21 passes, 20 gets 5; F = 0 gets 6; W = 32 passes, 33 gets 7
pub step_21 : fields_say (edge 21 223 32) ≡ Done
unfolding fields_say question2 question3 question4 question5 question6 question7 interleaver_delay symbols_per_word
step_21 = refl

pub step_20 : fields_say (edge 20 223 32) ≡ No 5 0
unfolding fields_say question2 question3 question4 question5 interleaver_delay symbols_per_word
step_20 = refl

pub size_0 : fields_say (edge 21 0 32) ≡ No 6 0
unfolding fields_say question2 question3 question4 question5 question6 interleaver_delay symbols_per_word
size_0 = refl

pub markers_33 : fields_say (edge 21 223 33) ≡ No 7 0
unfolding fields_say question2 question3 question4 question5 question6 question7 interleaver_delay symbols_per_word
markers_33 = refl

-- the ends of the ranges: a run of one frame of one byte, with one field changed
abbrev ranged : ℕ → ℕ → ℕ → ℕ → ℕ → ℕ → ℕ → Fields
ranged rate bits rows step size markers frames = record { rate = rate; bits = bits; rows = rows; step = step; size = size; markers = markers; frames = frames; copies = 1 }

pub ranges_passed : (fields_say (ranged 0 2 1 1 1 1 1) ≡ Done) × (fields_say (ranged 2 8 1 256 2048 32 64) ≡ Done)
unfolding fields_say question2 question3 question4 question5 question6 question7 interleaver_delay symbols_per_word
ranges_passed = (refl, refl)

pub below_ranges : map fields_say (ranged 0 1 1 1 1 1 1 ∷ ranged 0 2 0 1 1 1 1 ∷ ranged 0 2 1 0 1 1 1 ∷ ranged 0 2 1 1 0 1 1 ∷ ranged 0 2 1 1 1 0 1 ∷ ranged 0 2 1 1 1 1 0 ∷ [])
    ≡ No 3 0 ∷ No 4 0 ∷ No 4 0 ∷ No 6 0 ∷ No 7 0 ∷ No 6 0 ∷ []
unfolding fields_say question2 question3 question4 question5 question6 question7 interleaver_delay symbols_per_word
below_ranges = refl

pub above_ranges : map fields_say (ranged 3 2 1 1 1 1 1 ∷ ranged 0 9 1 1 1 1 1 ∷ ranged 0 2 129 1 1 1 1 ∷ ranged 0 2 1 257 1 1 1 ∷ ranged 0 2 1 1 2049 1 1 ∷ ranged 0 2 1 1 1 33 1 ∷ ranged 0 2 1 1 1 1 65 ∷ [])
    ≡ No 2 0 ∷ No 3 0 ∷ No 4 0 ∷ No 4 0 ∷ No 6 0 ∷ No 7 0 ∷ No 6 0 ∷ []
unfolding fields_say question2 question3 question4 question5 question6 question7 interleaver_delay symbols_per_word
above_ranges = refl

-- question 7's second part

-- the marker symbols of two: 3 is below M = 4, and 4 is not; a short slice is looked at, and what stands past the W-th is not
abbrev two : Fields
two = record { rate = 1; bits = 2; rows = 1; step = 1; size = 1; markers = 2; frames = 1; copies = 1 }

pub symbols_below : marks_good two (3 ∷ 0 ∷ []) ≡ true
unfolding marks_good lent_marks pulse_order first_from
symbols_below = refl

pub symbol_equal : marks_good two (0 ∷ 4 ∷ []) ≡ false
unfolding marks_good lent_marks pulse_order first_from
symbol_equal = refl

pub symbol_short : marks_good two (4 ∷ []) ≡ false
unfolding marks_good lent_marks pulse_order first_from
symbol_short = refl

pub symbol_late : marks_good two (0 ∷ 0 ∷ 4 ∷ []) ≡ true
unfolding marks_good lent_marks pulse_order first_from
symbol_late = refl
