-- The program runsheet. "The program `runsheet` reads a header from standard input, puts questions 1 to 6 and W's range of 7, and prints one line, `no` and
-- the number where one fails, else: code rate, pulse order M, N, B, F, W, A, C, symbols with markers, slots. [..] For no input or nine bytes, `no 1`."
-- And Card 6: "`runsheet` reads ten bytes, also checks the factor, and adds it at the end of its line; its symbols and slots count copies. 01's example is
-- now 59 50 F0 1B E8 02 04 00 00 00, and its line ends in `67559040 1`."
--
-- The contract of `sheet::line` says `Printed` of the bytes that were read and of those that are printed. The questions are `header_says`, in figures
-- `header_answers` (promises_headers/specs/Card6.antt); C, the symbols and the slots are `block_count`, `sent_symbols` and `slot_count`, in figures `run_sizes`
-- (promises_headers/specs/Questions.antt). The line is text in ASCII: 48 to 57 are the digits, 32 is a space, 47 a slash, 10 the end of the line, 110 and 111 are `no`.
use Rattle.std.specs.Prelude.{◌≡◌, List, [], ◌∷◌, ◌++◌, ℕ, ◌+◌, ◌/◌, ◌%◌, ◌^◌, ◌≤◌, ◌<◌, length, take}
use Rattle.answers.specs.Answer.{Done, No}
use Rattle.header.specs.Header.{fields_of}
use Rattle.header.specs.declared.Fields.{Fields}
use Rattle.header_sizes.specs.Quantities.{block_count, sent_symbols, slot_count}
use Rattle.header_questions.specs.Questions.{header_says}
use Rattle.sheet.specs.Text.{decimal}
use Rattle.sheet.specs.Line.{line_of, Printed}

-- What is printed is the line, and no more than that.
abbrev pub PrintedIs : Type 0
PrintedIs = (header out : List ℕ) (n : ℕ) → Printed header out n → (n ≡ length (line_of header)) × (take n out ≡ line_of header)

-- A number in decimal: its last digit follows the others, and there are no leading zeros.
abbrev pub DecimalIs : Type 0
DecimalIs =
    (n : ℕ)
    → (n < 10 → decimal n ≡ (48 + n) ∷ [])
    × (10 ≤ n → n < 10 ^ 20 → decimal n ≡ decimal (n / 10) ++ ((48 + n % 10) ∷ []))

-- numbers, each after a space, and the end of the line
abbrev pub spaced : List ℕ → List ℕ
spaced [] = 10 ∷ []
spaced (n ∷ ns) = 32 ∷ (decimal n ++ spaced ns)

-- "`no` and the number where one fails"
abbrev pub LineRefused : Type 0
LineRefused =
    (header : List ℕ) (number place : ℕ) → header_says header ≡ No number place → line_of header ≡ 110 ∷ 111 ∷ spaced (number ∷ [])

-- "M, N, B, F, W, A, C, symbols with markers, slots", copies counted, and the factor
abbrev pub numbers_of : Fields → List ℕ
numbers_of f =
    2 ^ f.bits ∷ f.rows ∷ f.step ∷ f.size ∷ f.markers ∷ f.frames ∷ block_count f ∷ sent_symbols f ∷ slot_count f ∷ f.copies ∷ []

-- "else: code rate", 1/3, 1/2 or 2/3, and these
abbrev pub LineAccepted : Type 0
LineAccepted =
    (header : List ℕ) → header_says header ≡ Done → (f : Fields) → f ≡ fields_of header
    → (f.rate ≡ 0 → line_of header ≡ 49 ∷ 47 ∷ 51 ∷ spaced (numbers_of f))
    × (f.rate ≡ 1 → line_of header ≡ 49 ∷ 47 ∷ 50 ∷ spaced (numbers_of f))
    × (f.rate ≡ 2 → line_of header ≡ 50 ∷ 47 ∷ 51 ∷ spaced (numbers_of f))

-- "For no input or nine bytes, `no 1`": for any other number of bytes than ten
abbrev pub LineOfOthers : Type 0
LineOfOthers = (header : List ℕ) → (length header ≡ 10 → ⊥) → line_of header ≡ 110 ∷ 111 ∷ 32 ∷ 49 ∷ 10 ∷ []

-- The example, which antt computes: `1/2 64 84 120 223 16 2 1 844488 67559040 1` for 59 50 F0 1B E8 02 04 00 00 00.
abbrev pub LineExample : Type 0
LineExample =
    line_of (0x59 ∷ 0x50 ∷ 0xF0 ∷ 0x1B ∷ 0xE8 ∷ 0x02 ∷ 0x04 ∷ 0x00 ∷ 0x00 ∷ 0x00 ∷ [])
    ≡ 49 ∷ 47 ∷ 50 ∷ 32 ∷ 54 ∷ 52 ∷ 32 ∷ 56 ∷ 52 ∷ 32 ∷ 49 ∷ 50 ∷ 48 ∷ 32 ∷ 50 ∷ 50 ∷ 51 ∷ 32 ∷ 49 ∷ 54 ∷ 32 ∷ 50 ∷ 32 ∷ 49 ∷ 32 ∷ 56 ∷ 52 ∷ 52 ∷ 52 ∷ 56 ∷ 56 ∷ 32 ∷ 54 ∷ 55 ∷ 53 ∷ 53 ∷ 57 ∷ 48 ∷ 52 ∷ 48 ∷ 32 ∷ 49 ∷ 10 ∷ []

-- ---- what is promised, all of it: the contract of `runsheet_line`
pub record Runsheet : Type 0 where
  pub printed_is : PrintedIs
  pub decimal_is : DecimalIs
  pub line_refused : LineRefused
  pub line_accepted : LineAccepted
  pub line_of_others : LineOfOthers
  pub line_example : LineExample
