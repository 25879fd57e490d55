-- Card 6. "The factor should travel in the header. The new form has the old 48 bits, then the factor in 6 bits, then 26 zero bits, ten bytes in all, and
-- question 1 reads accordingly. Question 20 is put to every call that is lent a header, Card 1's search too. Archived eight-byte headers become ten-byte
-- ones with factor 1, and go back unchanged. Every valid ten-byte header with factor 1 makes the same two trips. Both trips first put the header questions
-- that `runsheet` puts, an eight-byte header being held to the old question 1. `runsheet` reads ten bytes, also checks the factor, and adds it at the end
-- of its line; its symbols and slots count copies. [..] Turned away: 21 on the way back when the factor is not 1, put last."
--
-- `header_says` is what `runsheet` puts (header_questions/specs/Questions.antt), `old_says` the same of an archived header; the line that is printed is `line_of`
-- (sheet/specs/Line.antt), with the example's beside it. The contracts of `mahyrei_header_widen` and `mahyrei_header_narrow` are equations with `widen_says` and
-- `ten_after`, `narrow_says` and `eight_after`. Bit j of a header is `bitAt header j`, and `val f n` the number whose n bits are f 0, f 1, ..
use Rattle.std.specs.Prelude.{◌≡◌, Bool, ◌||◌, List, [], ◌∷◌, ◌⊎◌, ℕ, ◌+◌, ◌-◌, ◌*◌, ◌/◌, ◌%◌, ◌≤◌, ◌<◌, ltb, leb, eqb, length, get_or}
use Rattle.bits.specs.Pack.{val, bit_at, Bytes}
use Rattle.bits.specs.Basics.{both}
use Rattle.answers.specs.Answer.{Answer, Done, No, ask, then}
use Rattle.header.specs.Header.{fields_of, with_copies}
use Rattle.header.specs.declared.Fields.{Fields}
use Rattle.header_questions.specs.Questions.{question1, question2, question3, question4, question5, question6, question7, form_says, header_says, old_says}
use Rattle.header_convert.specs.Convert.{widened, narrowed, widen_says, narrow_says, ten_after, eight_after}

-- ---- "The old 48 bits, then the factor in 6 bits, then 26 zero bits, ten bytes in all, and question 1 reads accordingly"

abbrev pub HeaderFields : Type 0
HeaderFields =
    (header : List ℕ)
    → fields_of header
    ≡ record {
      rate = val (λ t. bit_at header (0 + t)) 2;
      bits = val (λ t. bit_at header (2 + t)) 4;
      rows = val (λ t. bit_at header (6 + t)) 8;
      step = val (λ t. bit_at header (14 + t)) 9;
      size = val (λ t. bit_at header (23 + t)) 12;
      markers = val (λ t. bit_at header (35 + t)) 6;
      frames = val (λ t. bit_at header (41 + t)) 7;
      copies = val (λ t. bit_at header (48 + t)) 6;
    }

abbrev pub TenBytes : Type 0
TenBytes = (header : List ℕ) → question1 header ≡ both (eqb (length header) 10) (eqb (val (λ t. bit_at header (54 + t)) 26) 0)

-- ---- the same in plain arithmetic of the bytes: "rate, 2 bits (0 for 1/3, 1 for 1/2, 2 for 2/3); m, 4 bits; rows N, 8 bits; step B, 9 bits; frame bytes F,
-- 12 bits; marker symbols W, 6 bits; frame count A, 7 bits", the factor in 6 bits, "most significant bit first"

-- byte i of a header, 0 after its end
abbrev pub byte : List ℕ → ℕ → ℕ
byte header i = get_or header i 0

abbrev pub fields_from : List ℕ → Fields
fields_from h = record {
  rate = byte h 0 / 64;
  bits = byte h 0 / 4 % 16;
  rows = byte h 0 % 4 * 64 + byte h 1 / 4;
  step = byte h 1 % 4 * 128 + byte h 2 / 2;
  size = byte h 2 % 2 * 2048 + byte h 3 * 8 + byte h 4 / 32;
  markers = byte h 4 % 32 * 2 + byte h 5 / 128;
  frames = byte h 5 % 128;
  copies = byte h 6 / 4;
}

abbrev pub HeaderBytes : Type 0
HeaderBytes = (header : List ℕ) → ((i : ℕ) → byte header i < 256) → fields_of header ≡ fields_from header

-- and `with_copies` changes the factor alone
abbrev pub OtherCopies : Type 0
OtherCopies =
    (copies : ℕ) (f : Fields)
    → with_copies copies f
    ≡ record { rate = f.rate; bits = f.bits; rows = f.rows; step = f.step; size = f.size; markers = f.markers; frames = f.frames; copies = copies }

-- ---- the questions put to a header, in figures: which number each failure gets, and in which order

-- "the last 26 bits zero", and of an archived header the last 16
abbrev pub ten_end : List ℕ → Bool
ten_end h = both (eqb (byte h 6 % 4) 0) (both (eqb (byte h 7) 0) (both (eqb (byte h 8) 0) (eqb (byte h 9) 0)))

abbrev pub eight_end : List ℕ → Bool
eight_end h = both (eqb (byte h 6) 0) (eqb (byte h 7) 0)

-- 2 to 7, W's range being all of 7 that is put to a header, and what comes after them
abbrev pub ranges_asked : Fields → Answer → Answer
ranges_asked f rest =
    then (ask (ltb f.rate 3) 2 0)
    (then (ask (both (leb 2 f.bits) (leb f.bits 8)) 3 0)
    (then (ask (both (both (leb 1 f.rows) (leb f.rows 128)) (both (leb 1 f.step) (leb f.step 256))) 4 0)
    (then (ask (eqb (f.rows * (f.rows - 1) * f.step % (15120 / f.bits)) 0) 5 0)
    (then (ask (both (both (leb 1 f.size) (leb f.size 2048)) (both (leb 1 f.frames) (leb f.frames 64))) 6 0)
    (then (ask (both (leb 1 f.markers) (leb f.markers 32)) 7 0)
    rest)))))

abbrev pub one_of_seven : ℕ → Bool
one_of_seven k = eqb k 1 || eqb k 2 || eqb k 3 || eqb k 4 || eqb k 8 || eqb k 16 || eqb k 32

-- 1 to 7 (`form_says`), and with 20 after them all that are put to a header alone
abbrev pub FormAnswers : Type 0
FormAnswers =
    (header : List ℕ) → ((i : ℕ) → byte header i < 256)
    → form_says header ≡ then (ask (both (eqb (length header) 10) (ten_end header)) 1 0) (ranges_asked (fields_from header) Done)

abbrev pub HeaderAnswers : Type 0
HeaderAnswers =
    (header : List ℕ) → ((i : ℕ) → byte header i < 256)
    → header_says header
    ≡ then (ask (both (eqb (length header) 10) (ten_end header)) 1 0) (ranges_asked (fields_from header) (ask (one_of_seven (fields_from header).copies) 20 0))

-- of an archived header
abbrev pub OldAnswers : Type 0
OldAnswers =
    (old : List ℕ) → ((i : ℕ) → byte old i < 256)
    → old_says old ≡ then (ask (both (eqb (length old) 8) (eight_end old)) 1 0) (ranges_asked (fields_from old) Done)

-- ---- so what passes is this, and all of this passes

pub record Ranges (f : Fields) : Type 0 where
  pub rate : f.rate < 3
  pub m_least : 2 ≤ f.bits
  pub m_most : f.bits ≤ 8
  pub n_least : 1 ≤ f.rows
  pub n_most : f.rows ≤ 128
  pub b_least : 1 ≤ f.step
  pub b_most : f.step ≤ 256
  pub whole : f.rows * (f.rows - 1) * f.step % (15120 / f.bits) ≡ 0
  pub f_least : 1 ≤ f.size
  pub f_most : f.size ≤ 2048
  pub a_least : 1 ≤ f.frames
  pub a_most : f.frames ≤ 64
  pub w_least : 1 ≤ f.markers
  pub w_most : f.markers ≤ 32

pub record TenPass (header : List ℕ) : Type 0 where
  pub long : length header ≡ 10
  pub zeros : (byte header 6 % 4 ≡ 0) × (byte header 7 ≡ 0) × (byte header 8 ≡ 0) × (byte header 9 ≡ 0)
  pub ranges : Ranges (fields_from header)
  pub factor : (byte header 6 / 4 ≡ 1) ⊎ (byte header 6 / 4 ≡ 2) ⊎ (byte header 6 / 4 ≡ 3) ⊎ (byte header 6 / 4 ≡ 4) ⊎ (byte header 6 / 4 ≡ 8)
      ⊎ (byte header 6 / 4 ≡ 16) ⊎ (byte header 6 / 4 ≡ 32)

pub record EightPass (old : List ℕ) : Type 0 where
  pub long : length old ≡ 8
  pub zeros : (byte old 6 ≡ 0) × (byte old 7 ≡ 0)
  pub ranges : Ranges (fields_from old)

abbrev pub HeaderAccepted : Type 0
HeaderAccepted =
    (header : List ℕ) → ((i : ℕ) → byte header i < 256)
    → (header_says header ≡ Done → TenPass header) × (TenPass header → header_says header ≡ Done)

abbrev pub OldAccepted : Type 0
OldAccepted =
    (old : List ℕ) → ((i : ℕ) → byte old i < 256)
    → (old_says old ≡ Done → EightPass old) × (EightPass old → old_says old ≡ Done)

abbrev pub OldRefused : Type 0
OldRefused = (old : List ℕ) (n number place : ℕ) → old_says old ≡ No number place → widen_says old n ≡ No number place

-- ---- "Both trips first put the header questions that `runsheet` puts, an eight-byte header being held to the old question 1": those are `header_says`, one
-- by one `header_asks` (header_questions/proofs/Laws/InOrder.antt)

abbrev pub WidenAsks : Type 0
WidenAsks =
    (old : List ℕ) (n : ℕ)
    → widen_says old n
    ≡ then (ask (both (eqb (length old) 8) (eqb (val (λ t. bit_at old (48 + t)) 16) 0)) 1 0)
    (then (ask (question2 (fields_of old)) 2 0)
    (then (ask (question3 (fields_of old)) 3 0)
    (then (ask (question4 (fields_of old)) 4 0)
    (then (ask (question5 (fields_of old)) 5 0)
    (then (ask (question6 (fields_of old)) 6 0)
    (then (ask (question7 (fields_of old)) 7 0)
    (ask (eqb n 10) 8 0)))))))

-- "21 on the way back when the factor is not 1, put last"
abbrev pub NarrowAsks : Type 0
NarrowAsks =
    (header : List ℕ) (n : ℕ)
    → narrow_says header n
    ≡ then (header_says header)
    (then (ask (eqb n 8) 8 0)
    (ask (eqb (fields_of header).copies 1) 21 0))

-- a valid header with another factor has no form in eight bytes
abbrev pub OtherFactor : Type 0
OtherFactor = (header : List ℕ) → header_says header ≡ Done → ((fields_of header).copies ≡ 1 → ⊥) → narrow_says header 8 ≡ No 21 0

-- ---- "Archived eight-byte headers become ten-byte ones with factor 1, and go back unchanged": in the lent slices

abbrev pub ArchivedTrips : Type 0
ArchivedTrips =
    (old ten eight : List ℕ) → Bytes old → old_says old ≡ Done → length ten ≡ 10 → length eight ≡ 8
    → (widen_says old (length ten) ≡ Done)
    × (fields_of (ten_after old ten) ≡ with_copies 1 (fields_of old))
    × (narrow_says (ten_after old ten) (length eight) ≡ Done)
    × (eight_after (ten_after old ten) eight ≡ old)

-- ---- "Every valid ten-byte header with factor 1 makes the same two trips": eight bytes have its fields except for the factor, in whose place there
-- are zeros

abbrev pub ValidTrips : Type 0
ValidTrips =
    (header eight ten : List ℕ) → Bytes header → header_says header ≡ Done → (fields_of header).copies ≡ 1 → length eight ≡ 8 → length ten ≡ 10
    → (narrow_says header (length eight) ≡ Done)
    × (fields_of (eight_after header eight) ≡ with_copies 0 (fields_of header))
    × (widen_says (eight_after header eight) (length ten) ≡ Done)
    × (ten_after (eight_after header eight) ten ≡ header)

-- 59 50 F0 1B E8 02 00 00 and 59 50 F0 1B E8 02 04 00 00 00, which antt computes
abbrev pub ExampleWidened : Type 0
ExampleWidened = widened (89 ∷ 80 ∷ 240 ∷ 27 ∷ 232 ∷ 2 ∷ 0 ∷ 0 ∷ []) ≡ 89 ∷ 80 ∷ 240 ∷ 27 ∷ 232 ∷ 2 ∷ 4 ∷ 0 ∷ 0 ∷ 0 ∷ []

abbrev pub ExampleNarrowed : Type 0
ExampleNarrowed = narrowed (89 ∷ 80 ∷ 240 ∷ 27 ∷ 232 ∷ 2 ∷ 4 ∷ 0 ∷ 0 ∷ 0 ∷ []) ≡ 89 ∷ 80 ∷ 240 ∷ 27 ∷ 232 ∷ 2 ∷ 0 ∷ 0 ∷ []

-- ---- a refused call leaves the lent slice as it was

abbrev pub RefusedWiden : Type 0
RefusedWiden = (old ten : List ℕ) (number place : ℕ) → widen_says old (length ten) ≡ No number place → ten_after old ten ≡ ten

abbrev pub RefusedNarrow : Type 0
RefusedNarrow = (header eight : List ℕ) (number place : ℕ) → narrow_says header (length eight) ≡ No number place → eight_after header eight ≡ eight

-- ---- what is promised, all of it: the contract of `card_6`
pub record Card6 : Type 0 where
  pub header_fields : HeaderFields
  pub ten_bytes : TenBytes
  pub header_bytes : HeaderBytes
  pub other_copies : OtherCopies
  pub form_answers : FormAnswers
  pub header_answers : HeaderAnswers
  pub old_answers : OldAnswers
  pub header_accepted : HeaderAccepted
  pub old_accepted : OldAccepted
  pub old_refused : OldRefused
  pub widen_asks : WidenAsks
  pub narrow_asks : NarrowAsks
  pub other_factor : OtherFactor
  pub archived_trips : ArchivedTrips
  pub valid_trips : ValidTrips
  pub example_widened : ExampleWidened
  pub example_narrowed : ExampleNarrowed
  pub refused_widen : RefusedWiden
  pub refused_narrow : RefusedNarrow
