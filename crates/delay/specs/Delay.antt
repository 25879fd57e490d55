-- Step 9 a symbol at a time: delay lines, one per row, that overwrite their oldest byte. Step n is turn n / N of row n mod N. A row holds each symbol back by some turns,
-- in as many bytes: it gives the symbol that it has held longest and stores the new one in its place. A row of no bytes gives what it takes. The rows are one after another
-- in an area, zero at the start, and nothing else is kept between steps.
use Rattle.std.specs.Prelude.{List, ℕ, zero, suc, ◌+◌, ◌-◌, ◌*◌, ◌/◌, ◌%◌, ltb, eqb, length, get_or, set}
use Rattle.bits.specs.Basics.{pick}
use Rattle.answers.specs.Answer.{Answer, after, ask, then, code_with}
use Rattle.header.specs.Header.{fields_of}
use Rattle.header.specs.declared.Fields.{Fields}
use Rattle.header_sizes.specs.Quantities.{pulse_order, interleaver_delay}
use Rattle.header_questions.specs.Questions.{header_says}
use Rattle.delay.specs.declared.Side.{Side}
use Rattle.delay.specs.declared.Side.TheVariants.{Writing, Reading}

-- ---- the lines

-- how many turns row i, of N, holds a symbol back, and so how many bytes it has
abbrev pub lag : Side → ℕ → ℕ → ℕ → ℕ
lag Writing rows step i = i * step
lag Reading rows step i = (rows - 1 - i) * step

-- where row i begins: after the rows before it, of which row j has `late j` bytes
unfoldable pub begin : (ℕ → ℕ) → ℕ → ℕ
begin late zero = 0
begin late (suc i) = begin late i + late i

-- the byte of step n, of N rows
unfoldable pub byte_of : ℕ → (ℕ → ℕ) → ℕ → ℕ
byte_of rows late n = begin late (n % rows) + n / rows % late (n % rows)

-- what step n gives for the symbol q, and the area after it
unfoldable pub given : ℕ → (ℕ → ℕ) → ℕ → ℕ → List ℕ → ℕ
given rows late n q area = pick (eqb (late (n % rows)) 0) q (get_or area (byte_of rows late n) 0)

unfoldable pub moved : ℕ → (ℕ → ℕ) → ℕ → ℕ → List ℕ → List ℕ
moved rows late n q area = pick (eqb (late (n % rows)) 0) area (set area (byte_of rows late n) q)

-- ---- the call

-- B N (N - 1) / 2, the bytes of all rows
unfoldable pub area_bytes : Fields → ℕ
area_bytes f = interleaver_delay f / 2

-- the questions: those of a header alone; 8: does the area have its length? 26: is the symbol below M?
unfoldable pub step_says : List ℕ → ℕ → ℕ → Answer
step_says header q area_length =
    then (header_says header)
    (then (ask (eqb area_length (area_bytes (fields_of header))) 8 0)
    (ask (ltb q (pulse_order (fields_of header))) 26 0))

-- the lines of a header, and its steps
abbrev pub lines : Side → Fields → ℕ → ℕ
lines side f = lag side f.rows f.step

abbrev pub gives : Side → Fields → ℕ → ℕ → List ℕ → ℕ
gives side f n q area = given f.rows (lines side f) n q area

abbrev pub leaves : Side → Fields → ℕ → ℕ → List ℕ → List ℕ
leaves side f n q area = moved f.rows (lines side f) n q area

-- C gets an acceptance with the symbol given
abbrev pub step_code : Side → List ℕ → ℕ → ℕ → List ℕ → ℕ
step_code side header n q area = code_with (step_says header q (length area)) (gives side (fields_of header) n q area)

-- what the area holds afterwards: where the step is refused, what it held
abbrev pub area_after : Side → List ℕ → ℕ → ℕ → List ℕ → List ℕ
area_after side header n q old = after (step_says header q (length old)) (leaves side (fields_of header) n q old) old
