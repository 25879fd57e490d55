-- Questions 1 to 7 and 20, in order; the first no gives the answer. `header_says` asks those that `runsheet` asks, and everything else builds on it.
use Rattle.std.specs.Prelude.{Bool, List, [], ◌∷◌, ℕ, ◌%◌, min, ltb, leb, eqb, length, get_or}
use Rattle.bits.specs.Basics.{both, up_to}
use Rattle.header.specs.Header.{fields_of, spare_of, old_spare_of}
use Rattle.header_sizes.specs.Quantities.{pulse_order, symbols_per_word, interleaver_delay}
use Rattle.header.specs.declared.Fields.{Fields}
use Rattle.answers.specs.Answer.{Answer, ask, then, among}

-- x is at least `least` and at most `most`
abbrev pub within : ℕ → ℕ → ℕ → Bool
within least x most = both (leb least x) (leb x most)

-- 1: is the header 10 bytes, its last 26 bits zero?
unfoldable pub question1 : List ℕ → Bool
question1 header = both (eqb (length header) 10) (eqb (spare_of header) 0)

-- 1 of an archived header: is it 8 bytes, its last 16 bits zero?
unfoldable pub old_question1 : List ℕ → Bool
old_question1 old = both (eqb (length old) 8) (eqb (old_spare_of old) 0)

-- 2: is the rate 0, 1 or 2?
unfoldable pub question2 : Fields → Bool
question2 f = ltb f.rate 3

-- 3: is m 2 to 8?
unfoldable pub question3 : Fields → Bool
question3 f = within 2 f.bits 8

-- 4: is N 1 to 128 and B 1 to 256?
unfoldable pub question4 : Fields → Bool
question4 f = both (within 1 f.rows 128) (within 1 f.step 256)

-- 5: is N (N - 1) B a multiple of S?
unfoldable pub question5 : Fields → Bool
question5 f = eqb (interleaver_delay f % symbols_per_word f) 0

-- 6: is F 1 to 2048 and A 1 to 64?
unfoldable pub question6 : Fields → Bool
question6 f = both (within 1 f.size 2048) (within 1 f.frames 64)

-- 7, its first part: is W 1 to 32?
unfoldable pub question7 : Fields → Bool
question7 f = within 1 f.markers 32

-- how many of the marker symbols are examined: up to the W-th, whatever the slice's length
unfoldable pub lent_marks : Fields → List ℕ → ℕ
lent_marks f marker = min (length marker) f.markers

-- whether the first n symbols are below M: none of them is the first that is not
abbrev pub below : ℕ → List ℕ → ℕ → Bool
below order marker i = ltb (get_or marker i 0) order

abbrev pub all_under : ℕ → ℕ → List ℕ → Bool
all_under order n marker = eqb (up_to (below order marker) 0 n) n

-- 7, its second part: is each marker symbol, up to the W-th, below M?
unfoldable pub marks_good : Fields → List ℕ → Bool
marks_good f marker = all_under (pulse_order f) (lent_marks f marker) marker

-- 20: is the factor one of these?
unfoldable pub copies_good : ℕ → Bool
copies_good copies = among (1 ∷ 2 ∷ 3 ∷ 4 ∷ 8 ∷ 16 ∷ 32 ∷ []) copies

abbrev pub question20 : Fields → Bool
question20 f = copies_good f.copies

-- 2 to 7, of the fields
unfoldable pub fields_say : Fields → Answer
fields_say f =
    then (ask (question2 f) 2 0)
    (then (ask (question3 f) 3 0)
    (then (ask (question4 f) 4 0)
    (then (ask (question5 f) 5 0)
    (then (ask (question6 f) 6 0)
    (ask (question7 f) 7 0)))))

-- 1 to 7, of a header
unfoldable pub form_says : List ℕ → Answer
form_says header = then (ask (question1 header) 1 0) (fields_say (fields_of header))

-- all questions of a header alone
unfoldable pub header_says : List ℕ → Answer
header_says header = then (form_says header) (ask (question20 (fields_of header)) 20 0)

-- all questions of a header and the marker symbols passed with it
unfoldable pub run_says : List ℕ → List ℕ → Answer
run_says header marker =
    then (form_says header)
    (then (ask (marks_good (fields_of header) marker) 7 0)
    (ask (question20 (fields_of header)) 20 0))

-- those of an archived header, which has no factor
unfoldable pub old_says : List ℕ → Answer
old_says old = then (ask (old_question1 old) 1 0) (fields_say (fields_of old))
