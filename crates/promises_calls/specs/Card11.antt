-- Card 11. "The whole shuffled sequence of step 9 no longer fits the new modem card. Give us step 9 a symbol at a time over a lent area of B·N·(N−1)/2
-- bytes, zero at the start, where each row writes over its oldest byte. After any number of accepted steps, told 0, 1, 2 and so on, the symbols given
-- are the first ones that step 9 defines for the symbols taken so far followed by zeros, its place rule running on past C-as-S. The reading side delays
-- row i by (N−1−i)·B turns, so that after B·N·(N−1) symbols the writer's input comes out in order. On both sides each step is told its number, a 64-bit
-- count from 0, and nothing but the area is kept between steps. The rows lie one after another from row 0, the byte of turn t (the step's number over
-- N, rounded down) at t mod the row's length. Turned away: 26 for a symbol not below M, put after 8, the area unchanged and the symbol given 0, as in
-- every refused step."
--
-- The contracts of `mahyrei_delay_write` and `mahyrei_delay_read` are equations with `step_code` and `area_after`, on the side `Writing` or `Reading`: what a step
-- answers, and the area afterwards, from the header, the step's number n, the symbol q and the area before. N, B and m are `rows`, `step` and `bits` of the
-- header's fields. `placed` (channel/specs/Channel.antt) is what step 9 puts at a place, of the symbols of a layout, which has C words of S; `cut n q` are the
-- first n of the symbols q, and zeros after them.
use Rattle.std.specs.Prelude.{◌≡◌, List, ℕ, zero, suc, ◌+◌, ◌-◌, ◌*◌, ◌/◌, ◌%◌, ◌^◌, ◌≤◌, ◌<◌, ltb, eqb, length, get_or, set, replicate}
use Rattle.bits.specs.Pack.{cut}
use Rattle.answers.specs.Answer.{Done, No, number_of, ask, then}
use Rattle.header.specs.Header.{fields_of}
use Rattle.header.specs.declared.Fields.{Fields}
use Rattle.header_sizes.specs.Quantities.{symbols_per_word, block_count}
use Rattle.header_questions.specs.Questions.{header_says}
use Rattle.channel.specs.declared.Layout.{Layout}
use Rattle.channel.specs.Channel.{placed}
use Rattle.run.specs.Steps.{step8, standing}
use Rattle.delay.specs.Delay.{begin, step_says, lines, step_code, area_after}
use Rattle.delay.specs.declared.Side.{Side}
use Rattle.delay.specs.declared.Side.TheVariants.{Writing, Reading}

-- ---- one step

-- its questions, on both sides: those put to every header, then the area's length, then the symbol. "26 for a symbol not below M, put after 8."
abbrev pub StepAsks : Type 0
StepAsks =
    (header : List ℕ) (q area_length : ℕ)
    → step_says header q area_length
    ≡ then (header_says header)
    (then (ask (eqb area_length ((fields_of header).rows * ((fields_of header).rows - 1) * (fields_of header).step / 2)) 8 0)
    (ask (ltb q (2 ^ (fields_of header).bits)) 26 0))

abbrev pub StepNot17 : Type 0
StepNot17 = (header : List ℕ) (q area_length : ℕ) → number_of (step_says header q area_length) ≡ 17 → ⊥

-- "the area unchanged and the symbol given 0, as in every refused step": the answer is the number alone
abbrev pub RefusedStep : Type 0
RefusedStep =
    (side : Side) (header : List ℕ) (n q : ℕ) (area : List ℕ) (number place : ℕ) → step_says header q (length area) ≡ No number place
    → (step_code side header n q area ≡ number) × (number < 256) × (area_after side header n q area ≡ area)

-- ---- the rows

-- "The rows lie one after another from row 0", i·B bytes writing, (N−1−i)·B reading, and fill the area
abbrev pub RowsFollow : Type 0
RowsFollow =
    (side : Side) (f : Fields) (i : ℕ) → (begin (lines side f) 0 ≡ 0) × (begin (lines side f) (i + 1) ≡ begin (lines side f) i + lines side f i)

abbrev pub RowsFill : Type 0
RowsFill = (side : Side) (f : Fields) → begin (lines side f) f.rows ≡ f.rows * (f.rows - 1) * f.step / 2

-- row i has this many bytes
abbrev pub RowBytes : Type 0
RowBytes = (f : Fields) (i : ℕ) → (lines Writing f i ≡ i * f.step) × (lines Reading f i ≡ (f.rows - 1 - i) * f.step)

-- "each row writes over its oldest byte", "the byte of turn t (the step's number over N, rounded down) at t mod the row's length": for any n it lies
-- in the area, is given, and has the new symbol afterwards
abbrev pub BytePasses : Type 0
BytePasses =
    (side : Side) (header : List ℕ) (n q : ℕ) (area : List ℕ) → step_says header q (length area) ≡ Done
    → (f : Fields) → f ≡ fields_of header → (bytes : ℕ) → bytes ≡ lines side f (n % f.rows)
    → 1 ≤ bytes → (at : ℕ) → at ≡ begin (lines side f) (n % f.rows) + n / f.rows % bytes
    → (at < length area) × (step_code side header n q area ≡ get_or area at 0 * 256) × (area_after side header n q area ≡ set area at q)

-- a row of no bytes passes the symbol straight through
abbrev pub NonePasses : Type 0
NonePasses =
    (side : Side) (header : List ℕ) (n q : ℕ) (area : List ℕ) → step_says header q (length area) ≡ Done
    → (f : Fields) → f ≡ fields_of header → (bytes : ℕ) → bytes ≡ lines side f (n % f.rows)
    → bytes ≡ 0 → (step_code side header n q area ≡ q * 256) × (area_after side header n q area ≡ area)

-- ---- steps told 0, 1, 2 and so on, with the symbols q 0, q 1, ..

-- the area before step n, zero at the start, and what step n answers: "nothing but the area is kept between steps"
unfoldable pub area_before : Side → List ℕ → (ℕ → ℕ) → ℕ → List ℕ
area_before side header q zero = replicate ((fields_of header).rows * ((fields_of header).rows - 1) * (fields_of header).step / 2) 0
area_before side header q (suc n) = area_after side header n (q n) (area_before side header q n)

abbrev pub answer_at : Side → List ℕ → (ℕ → ℕ) → ℕ → ℕ
answer_at side header q n = step_code side header n (q n) (area_before side header q n)

-- the symbols that the writer's answers carry
abbrev pub writer_gives : List ℕ → (ℕ → ℕ) → ℕ → ℕ
writer_gives header q n = answer_at Writing header q n / 256

-- the first n steps are accepted:
abbrev pub Accepted : Side → List ℕ → (ℕ → ℕ) → ℕ → Type 0
Accepted side header q n = (k : ℕ) → k < n → step_says header (q k) (length (area_before side header q k)) ≡ Done

-- under a good header steps with symbols below M are accepted,
abbrev pub StepsAccepted : Type 0
StepsAccepted =
    (side : Side) (header : List ℕ) → header_says header ≡ Done → (q : ℕ → ℕ) (n : ℕ) → ((k : ℕ) → k < n → q k < 2 ^ (fields_of header).bits)
    → Accepted side header q n

-- and no others
abbrev pub AcceptedGood : Type 0
AcceptedGood = (side : Side) (header : List ℕ) (q : ℕ → ℕ) (n : ℕ) → Accepted side header q n → (k : ℕ) → k < n → header_says header ≡ Done

abbrev pub AcceptedBelow : Type 0
AcceptedBelow = (side : Side) (header : List ℕ) (q : ℕ → ℕ) (n : ℕ) → Accepted side header q n → (k : ℕ) → k < n → q k < 2 ^ (fields_of header).bits

-- "After any number of accepted steps, told 0, 1, 2 and so on, the symbols given are the first ones that step 9 defines for the symbols taken so far
-- followed by zeros, its place rule running on past C-as-S": after n steps, in every layout with the header's N and B and at least n symbols, whatever its C
-- and S, and so with as many zeros after them as one likes
abbrev pub Written : Type 0
Written =
    (header : List ℕ) (q : ℕ → ℕ) (n : ℕ) → Accepted Writing header q n
    → (g : Layout) → g.rows ≡ (fields_of header).rows → g.step ≡ (fields_of header).step → n ≤ g.words * g.symbols
    → (x : ℕ) → x < n → answer_at Writing header q x ≡ placed g (cut n q) x * 256

-- So row i, which is x mod N, writes its symbols i·B turns late: at step x the symbol given is the one taken (x mod N)·B·N steps before, or 0.
abbrev pub WrittenLate : Type 0
WrittenLate =
    (header : List ℕ) (q : ℕ → ℕ) (n : ℕ) → Accepted Writing header q n
    → (N B : ℕ) → N ≡ (fields_of header).rows → B ≡ (fields_of header).step → (x : ℕ) → x < n
    → ((t : ℕ) → t + x % N * B * N ≡ x → answer_at Writing header q x ≡ q t * 256)
    × (x < x % N * B * N → answer_at Writing header q x ≡ 0)

-- "The reading side delays row i by (N−1−i)·B turns": whatever symbols it takes, at step x it gives the one taken (N − 1 − x mod N)·B·N steps before,
-- or 0.
abbrev pub ReadLate : Type 0
ReadLate =
    (header : List ℕ) (q : ℕ → ℕ) (n : ℕ) → Accepted Reading header q n
    → (N B : ℕ) → N ≡ (fields_of header).rows → B ≡ (fields_of header).step → (x : ℕ) → x < n
    → ((t : ℕ) → t + (N - 1 - x % N) * B * N ≡ x → answer_at Reading header q x ≡ q t * 256)
    × (x < (N - 1 - x % N) * B * N → answer_at Reading header q x ≡ 0)

-- the reader is fed with the symbols that the writer gives, which it accepts:
abbrev pub ReadAccepted : Type 0
ReadAccepted = (header : List ℕ) (q : ℕ → ℕ) (n : ℕ) → Accepted Writing header q n → Accepted Reading header (writer_gives header q) n

-- "after B·N·(N−1) symbols the writer's input comes out in order", and zeros before it
abbrev pub ReadBack : Type 0
ReadBack =
    (header : List ℕ) (q : ℕ → ℕ) (n : ℕ) → Accepted Writing header q n
    → (x : ℕ) → x + (fields_of header).rows * ((fields_of header).rows - 1) * (fields_of header).step < n
    → answer_at Reading header (writer_gives header q) (x + (fields_of header).rows * ((fields_of header).rows - 1) * (fields_of header).step) ≡ q x * 256

abbrev pub ReadZeros : Type 0
ReadZeros =
    (header : List ℕ) (q : ℕ → ℕ) (n : ℕ) → Accepted Writing header q n
    → (x : ℕ) → x < n → x < (fields_of header).rows * ((fields_of header).rows - 1) * (fields_of header).step → answer_at Reading header (writer_gives header q) x ≡ 0

-- ---- a run

-- on a run's symbols, those of step 8 with zeros after the C-as-S of them, the symbols given are the run's places, which step 10 sends
abbrev pub RunPlaces : Type 0
RunPlaces =
    (header marker frames : List ℕ) → header_says header ≡ Done → (x : ℕ)
    → answer_at Writing header (cut (block_count (fields_of header) * symbols_per_word (fields_of header)) (step8 header marker frames)) x ≡ standing header marker frames x * 256

-- ---- what is promised, all of it: the contract of `card_11`
pub record Card11 : Type 0 where
  pub step_asks : StepAsks
  pub step_not_17 : StepNot17
  pub refused_step : RefusedStep
  pub rows_follow : RowsFollow
  pub rows_fill : RowsFill
  pub row_bytes_lem : RowBytes
  pub byte_passes : BytePasses
  pub none_passes : NonePasses
  pub steps_accepted : StepsAccepted
  pub accepted_good : AcceptedGood
  pub accepted_below : AcceptedBelow
  pub written : Written
  pub written_late : WrittenLate
  pub read_late : ReadLate
  pub read_accepted : ReadAccepted
  pub read_back : ReadBack
  pub read_zeros : ReadZeros
  pub run_places : RunPlaces
