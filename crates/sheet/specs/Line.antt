-- The line that `runsheet` prints of a header, for any bytes.
use Rattle.std.specs.Prelude.{◌≡◌, List, [], ◌∷◌, ◌++◌, ℕ, length, take}
use Rattle.sizes.specs.Sizes.{inputs_per, coded_per}
use Rattle.header.specs.Header.{fields_of}
use Rattle.header_sizes.specs.Quantities.{pulse_order, block_count, sent_symbols, slot_count}
use Rattle.header_questions.specs.Questions.{header_says}
use Rattle.header.specs.declared.Fields.{Fields}
use Rattle.answers.specs.Answer.{Answer, Done, No}
use Rattle.sheet.specs.Text.{digit, items}

-- `1/3`, `1/2` or `2/3`
unfoldable pub rate_text : ℕ → List ℕ
rate_text rate = digit (inputs_per rate) ∷ 47 ∷ digit (coded_per rate) ∷ []

-- M, N, B, F, W, A, C, the symbols with markers and the slots, both with copies counted, and the factor
unfoldable pub run_numbers : Fields → List ℕ
run_numbers f =
    pulse_order f ∷ f.rows ∷ f.step ∷ f.size ∷ f.markers ∷ f.frames ∷ block_count f ∷ sent_symbols f ∷ slot_count f ∷ f.copies ∷ []

unfoldable pub run_line : Fields → List ℕ
run_line f = rate_text f.rate ++ items (run_numbers f)

-- `no` and the number
unfoldable pub no_line : ℕ → List ℕ
no_line number = 110 ∷ 111 ∷ items (number ∷ [])

abbrev pub line_for : Answer → Fields → List ℕ
line_for Done f = run_line f
line_for (No number place) f = no_line number

-- the questions that `runsheet` asks, and what it prints
unfoldable pub line_of : List ℕ → List ℕ
line_of header = line_for (header_says header) (fields_of header)

-- what the slice begins with
pub record Printed (header out : List ℕ) (n : ℕ) : Type 0 where
  pub count : n ≡ length (line_of header)
  pub text : take n out ≡ line_of header
