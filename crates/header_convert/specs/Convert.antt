-- The two trips of a header: an archived one of eight bytes becomes one of ten with factor 1, and one of ten with factor 1 goes back to eight.
use Rattle.std.specs.Prelude.{List, ℕ, ltb, eqb, length}
use Rattle.bits.specs.Basics.{pick, bool}
use Rattle.bits.specs.Pack.{bit_at, bytes_of, cut}
use Rattle.answers.specs.Answer.{Answer, after, ask, then}
use Rattle.header.specs.Header.{fields_of}
use Rattle.header_questions.specs.Questions.{header_says, old_says}

-- the old 48 bits, the factor 1 in six bits, and 26 zero bits
abbrev pub wide_bit : List ℕ → ℕ → ℕ
wide_bit old j = pick (ltb j 48) (bit_at old j) (bool (eqb j 53))

unfoldable pub widened : List ℕ → List ℕ
widened old = bytes_of 10 (wide_bit old)

-- the 48 bits, and 16 zero bits
unfoldable pub narrowed : List ℕ → List ℕ
narrowed header = bytes_of 8 (cut 48 (bit_at header))

-- the questions that `runsheet` puts, of an archived header those of eight bytes; 8, of the slice for the other header; and on the way back 21: is the
-- factor 1?
unfoldable pub widen_says : List ℕ → ℕ → Answer
widen_says old ten_length = then (old_says old) (ask (eqb ten_length 10) 8 0)

unfoldable pub narrow_says : List ℕ → ℕ → Answer
narrow_says header eight_length =
    then (header_says header)
    (then (ask (eqb eight_length 8) 8 0)
    (ask (eqb (fields_of header).copies 1) 21 0))

-- what the slice lent for the result holds afterwards: the result on acceptance, otherwise what it held
abbrev pub ten_after : List ℕ → List ℕ → List ℕ
ten_after eight old = after (widen_says eight (length old)) (widened eight) old

abbrev pub eight_after : List ℕ → List ℕ → List ℕ
eight_after ten old = after (narrow_says ten (length old)) (narrowed ten) old
