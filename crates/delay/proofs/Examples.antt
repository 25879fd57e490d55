-- Where the rows lie at N = 6 and B = 63 and at N = 127 and B = 255, the edges of 8 and 26, and what the steps give in the draft's example, N = 4 and B = 1, which antt computes.
use mathlib.Core.Path.{◌≡◌, refl}
use mathlib.Core.List.{List, [], ◌∷◌, map}
use Prim.Native.Nat.{ℕ, ◌+◌, ◌-◌, ◌^◌}
use Rattle.bits.specs.Pack.{val, bit_at}
use Rattle.bits.specs.Basics.{tab}
use Rattle.answers.specs.Answer.{Done, No}
use Rattle.header.specs.Header.{field, fields_of, spare_of}
use Rattle.header_sizes.specs.Quantities.{pulse_order, symbols_per_word, interleaver_delay}
use Rattle.header_questions.specs.Questions.{question1, question2, question3, question4, question5, question6, question7, copies_good, fields_say, form_says, header_says}
use Rattle.delay.specs.Delay.{lag, begin, byte_of, given, moved, area_bytes, step_says}
use Rattle.delay.proofs.Laws.Delay.{area_at, given_at}
use Rattle.delay.specs.declared.Side.TheVariants.{Writing, Reading}

-- the rows follow one another from row 0, on either side
pub write_rows : map (begin (lag Writing 6 63)) (0 ∷ 1 ∷ 2 ∷ 3 ∷ 4 ∷ 5 ∷ 6 ∷ []) ≡ 0 ∷ 0 ∷ 63 ∷ 189 ∷ 378 ∷ 630 ∷ 945 ∷ []
unfolding begin
write_rows = refl

pub read_rows : map (begin (lag Reading 6 63)) (0 ∷ 1 ∷ 2 ∷ 3 ∷ 4 ∷ 5 ∷ 6 ∷ []) ≡ 0 ∷ 315 ∷ 567 ∷ 756 ∷ 882 ∷ 945 ∷ 945 ∷ []
unfolding begin
read_rows = refl

-- row 1 writes its 63 bytes in 63 turns, and comes round to the first
pub write_bytes : map (byte_of 6 (lag Writing 6 63)) (1 ∷ 2 ∷ 7 ∷ 373 ∷ 379 ∷ 380 ∷ []) ≡ 0 ∷ 63 ∷ 1 ∷ 62 ∷ 0 ∷ 126 ∷ []
unfolding byte_of begin
write_bytes = refl

-- the byte of the last step number of all, and at N = 127 and B = 255
pub last_bytes : (byte_of 6 (lag Writing 6 63) (2 ^ 64 - 1) ≡ 359) × (byte_of 6 (lag Reading 6 63) (2 ^ 64 - 1) ≡ 800)
    × (byte_of 127 (lag Writing 127 255) (2 ^ 64 - 1) ≡ 2) × (byte_of 127 (lag Reading 127 255) (2 ^ 64 - 1) ≡ 54062)
unfolding byte_of begin
last_bytes = (refl, refl, refl, refl)

pub largest_area : area_bytes (record { rate = 0; bits = 8; rows = 127; step = 255; size = 1; markers = 1; frames = 1; copies = 1 }) ≡ 2040255
unfolding area_bytes interleaver_delay
largest_area = refl

-- ---- the questions, of the header 60 18 7E 70 81 03 04 00 00 00: m = 8, N = 6, B = 63

abbrev example : List ℕ
example = 0x60 ∷ 0x18 ∷ 0x7E ∷ 0x70 ∷ 0x81 ∷ 0x03 ∷ 0x04 ∷ 0x00 ∷ 0x00 ∷ 0x00 ∷ []

-- 945 bytes and no other length, 255 and no larger symbol, the length first
pub edges : (map (step_says example 255) (944 ∷ 945 ∷ 946 ∷ []) ≡ No 8 0 ∷ Done ∷ No 8 0 ∷ [])
    × (map (λ q. step_says example q 945) (256 ∷ (2 ^ 64 - 1) ∷ []) ≡ No 26 0 ∷ No 26 0 ∷ [])
    × (step_says example 256 944 ≡ No 8 0)
unfolding step_says header_says form_says fields_say question1 question2 question3 question4 question5 question6 question7 copies_good fields_of spare_of field val bit_at symbols_per_word interleaver_delay area_bytes pulse_order
edges = (refl, refl, refl)

-- ---- the draft's example

-- symbols 1, 2, 3 .. go in; q0 . . . q4 q1 . . q8 q5 q2 . q12 q9 q6 q3 come out
abbrev sent : ℕ → ℕ
sent = given_at 4 (lag Writing 4 1) (λ n. n + 1)

pub draft_written : tab 16 sent ≡ 1 ∷ 0 ∷ 0 ∷ 0 ∷ 5 ∷ 2 ∷ 0 ∷ 0 ∷ 9 ∷ 6 ∷ 3 ∷ 0 ∷ 13 ∷ 10 ∷ 7 ∷ 4 ∷ []
unfolding tab area_at given moved byte_of begin
draft_written = refl

-- after the reader the same symbols, 12 steps late
pub draft_read : tab 16 (given_at 4 (lag Reading 4 1) sent) ≡ 0 ∷ 0 ∷ 0 ∷ 0 ∷ 0 ∷ 0 ∷ 0 ∷ 0 ∷ 0 ∷ 0 ∷ 0 ∷ 0 ∷ 1 ∷ 2 ∷ 3 ∷ 4 ∷ []
unfolding tab area_at given moved byte_of begin
draft_read = refl

-- the writer's six bytes after 12 steps
pub draft_area : area_at 4 (lag Writing 4 1) (λ n. n + 1) 12 ≡ 10 ∷ 11 ∷ 7 ∷ 4 ∷ 8 ∷ 12 ∷ []
unfolding tab area_at moved byte_of begin
draft_area = refl
