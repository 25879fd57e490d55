-- Card 5. "Faint links send each symbol, markers and guard slots included, 1, 2, 3, 4, 8, 16 or 32 times in a row. The reader pools the copies: it counts
-- pulses per slot over all copies, guard slots too, and the symbol is the slot with the strictly largest count, which must be a data slot. This replaces
-- question 10, and with one copy it is the same test; show that. A repeated buffer is accepted if its pooled symbols are those of some run and its spare
-- bits are zero, giving that run's frames, and otherwise not; places count pooled symbols. For factors above 1 this stands in place of the customer's "only
-- if some frames are written to it", "It corrects nothing" and "exactly one pulse"; whatever is written is still accepted and gives its frames, and for
-- factor 1 and for single words nothing changes. Turned away: 20 for another factor, put after 7."
--
-- The factor is a field of the header since Card 6. Plans are those of a header and its marker symbols (`plan_in`). For factor 1 Demand2 keeps its
-- text, and single words have no factor. `run_writer_asks` and `run_reader_asks` of Demand1 say where question 20 is put.
use Rattle.std.specs.Prelude.{◌≡◌, true, false, List, [], ◌∷◌, map, ℕ, ◌+◌, ◌*◌, ◌/◌, ◌^◌, ◌≤◌, ◌<◌, eqb, length}
use Rattle.bits.specs.Basics.{bool}
use Rattle.bits.specs.Pack.{bit_at, Bytes}
use Rattle.bits.specs.Count.{weight}
use Rattle.answers.specs.Answer.{Done, No, number_of, among}
use Rattle.header.specs.Header.{fields_of, with_copies}
use Rattle.header_sizes.specs.Quantities.{symbol_count, slot_count, slot_bytes}
use Rattle.header_questions.specs.Questions.{copies_good, form_says, marks_good}
use Rattle.channel.specs.Channel as layouts
use Rattle.plan.specs.Plan.{plan_in}
use Rattle.plan.specs.Lengths.{call_says}
use Rattle.pulses.specs.Pulses as pulses
use Rattle.pool.specs.Pooled.{count, pooled, first_undecided}
use Rattle.slots.specs.Reading.{spare_slots_empty, pooled_in}
use Rattle.run.specs.Run as runs
use Rattle.run.specs.Steps as steps
use Rattle.run.specs.Run.{slots_after, frames_after, run_read_says, run_write_says}
use Rattle.promises_headers.specs.Edges.{smallest, largest}

-- ---- "1, 2, 3, 4, 8, 16 or 32 times"

abbrev pub Factors : Type 0
Factors = map copies_good (1 ∷ 2 ∷ 3 ∷ 4 ∷ 8 ∷ 16 ∷ 32 ∷ []) ≡ true ∷ true ∷ true ∷ true ∷ true ∷ true ∷ true ∷ []

abbrev pub OtherFactors : Type 0
OtherFactors =
    map copies_good (0 ∷ 5 ∷ 6 ∷ 7 ∷ 9 ∷ 15 ∷ 17 ∷ 31 ∷ 33 ∷ 64 ∷ 4294967297 ∷ []) ≡ false ∷ false ∷ false ∷ false ∷ false ∷ false ∷ false ∷ false ∷ false ∷ false ∷ false ∷ []

-- "20 for another factor, put after 7": both calls, where header and marker symbols pass
abbrev pub RunFactorRefused : Type 0
RunFactorRefused =
    (header marker frames slots : List ℕ) (n : ℕ) → form_says header ≡ Done → marks_good (fields_of header) marker ≡ true
    → copies_good (fields_of header).copies ≡ false
    → (run_write_says header marker frames n ≡ No 20 0) × (run_read_says header marker slots n ≡ No 20 0)

-- ---- "Faint links send each symbol, markers and guard slots included, .. times in a row"

-- slot r of copy c of symbol s has a pulse if the symbol is r, and there is none after the last copy
abbrev pub CopiesSent : Type 0
CopiesSent =
    (header marker frames : List ℕ) (s c r : ℕ) → s < layouts.layout_symbols (plan_in header marker).layout → c < (fields_of header).copies → r < (plan_in header marker).group
    → steps.slot header marker frames ((s * (fields_of header).copies + c) * (plan_in header marker).group + r) ≡ bool (eqb r (steps.step10 header marker frames s))

abbrev pub NoneBehind : Type 0
NoneBehind =
    (header marker frames : List ℕ) (x : ℕ) → layouts.layout_symbols (plan_in header marker).layout * (fields_of header).copies ≤ x / (plan_in header marker).group
    → steps.slot header marker frames x ≡ 0

-- the bytes of 1, 2, 3, 4 and 8 copies of the smallest run, packed once, and the slots and bytes of 32 copies of the largest
abbrev pub SentLengths : Type 0
SentLengths = map (λ k. slot_bytes (with_copies k smallest)) (1 ∷ 2 ∷ 3 ∷ 4 ∷ 8 ∷ []) ≡ 4726 ∷ 9452 ∷ 14177 ∷ 18903 ∷ 37805 ∷ []

abbrev pub LargestSent : Type 0
LargestSent = (slot_count (with_copies 32 largest) ≡ 46624952320) × (slot_bytes (with_copies 32 largest) ≡ 5828119040)

-- ---- "It counts pulses per slot over all copies, guard slots too, and the symbol is the slot with the strictly largest count, which must be a data slot"

abbrev pub Counts : Type 0
Counts = (b : List ℕ) (copies group s r : ℕ) → count b copies group s r ≡ weight (λ c. bit_at b ((s * copies + c) * group + r)) copies

-- of M data slots and the guard slots after them, `group` in all: q is the symbol if its count is above every other, and only then; where there is no such
-- data slot, `pooled` is M
abbrev pub PooledIs : Type 0
PooledIs =
    (b : List ℕ) (copies group order s q : ℕ) → q < order → q < group
    → ((r : ℕ) → r < group → (r ≡ q → ⊥) → count b copies group s r < count b copies group s q) → pooled b copies group order s ≡ q

abbrev pub PooledOnly : Type 0
PooledOnly =
    (b : List ℕ) (copies group order s : ℕ) → order ≤ group → pooled b copies group order s < order
    → (r : ℕ) → r < group → (r ≡ pooled b copies group order s → ⊥) → count b copies group s r < count b copies group s (pooled b copies group order s)

abbrev pub PooledMost : Type 0
PooledMost = (b : List ℕ) (copies group order s : ℕ) → pooled b copies group order s ≤ order

-- ---- "With one copy it is the same test": the place of the only pulse, if that is a data slot, and question 10 over n groups

abbrev pub OneCopy : Type 0
OneCopy = (b : List ℕ) (group order s : ℕ) → 2 ≤ group → order ≤ group → pooled b 1 group order s ≡ pulses.symbol_in order group b s

abbrev pub OneCopyAsked : Type 0
OneCopyAsked = (b : List ℕ) (group order n : ℕ) → 2 ≤ group → order ≤ group → first_undecided b 1 group order n ≡ pulses.first_bad_group order group n b

-- So with one copy, where 1 to 9 and 20 are answered yes, the answer is not 10 exactly if each symbol's group has exactly one pulse, among its first M
-- slots: of the M + M/4 slots, slot q below M is 1 and every other is 0.
abbrev pub OnePulseExactly : Type 0
OnePulseExactly =
    (header marker slots : List ℕ) (n : ℕ) → (fields_of header).copies ≡ 1
    → among (1 ∷ 2 ∷ 3 ∷ 4 ∷ 5 ∷ 6 ∷ 7 ∷ 8 ∷ 9 ∷ 20 ∷ []) (number_of (run_read_says header marker slots n)) ≡ false
    → (M G : ℕ) → M ≡ 2 ^ (fields_of header).bits → G ≡ M + M / 4
    → ((number_of (run_read_says header marker slots n) ≡ 10 → ⊥)
    → (s : ℕ) → s < symbol_count (fields_of header) → (q : ℕ) × (q < M) × ((r : ℕ) → r < G → bit_at slots (s * G + r) ≡ bool (eqb r q)))
    × (((s : ℕ) → s < symbol_count (fields_of header) → (q : ℕ) × (q < M) × ((r : ℕ) → r < G → bit_at slots (s * G + r) ≡ bool (eqb r q)))
    → number_of (run_read_says header marker slots n) ≡ 10 → ⊥)

-- ---- "A repeated buffer is accepted if its pooled symbols are those of some run and its spare bits are zero, giving that run's frames, and otherwise not"

-- What it means for slots to pool to a run's symbols: the slot with the most pulses over the copies of symbol s is symbol s of step 10.
abbrev pub pooled_symbol : List ℕ → List ℕ → List ℕ → ℕ → ℕ
pooled_symbol header marker slots s = pooled slots (plan_in header marker).copies (plan_in header marker).group (plan_in header marker).order s

abbrev pub PoolsToIs : Type 0
PoolsToIs =
    (header marker slots frames : List ℕ) (n : ℕ) → n ≡ layouts.layout_symbols (plan_in header marker).layout
    → (runs.PoolsTo header marker slots frames → (s : ℕ) → s < n → pooled_symbol header marker slots s ≡ steps.step10 header marker frames s)
    × (((s : ℕ) → s < n → pooled_symbol header marker slots s ≡ steps.step10 header marker frames s) → runs.PoolsTo header marker slots frames)

abbrev pub RepeatedAccepted : Type 0
RepeatedAccepted =
    (header marker frames slots : List ℕ) → Bytes frames → run_write_says header marker frames (length slots) ≡ Done
    → spare_slots_empty (plan_in header marker) slots ≡ true → runs.PoolsTo header marker slots frames
    → (run_read_says header marker slots (length frames) ≡ Done) × (runs.frames_read header marker slots ≡ frames)

abbrev pub RepeatedOnly : Type 0
RepeatedOnly =
    (header marker slots : List ℕ) (n : ℕ) → run_read_says header marker slots n ≡ Done
    → (run_write_says header marker (runs.frames_read header marker slots) (length slots) ≡ Done)
    × (spare_slots_empty (plan_in header marker) slots ≡ true)
    × runs.PoolsTo header marker slots (runs.frames_read header marker slots)

-- "Places count pooled symbols": the first whose copies do not decide on a data slot is the place of 10. Those of 11 and 12 are symbols too (Places).
abbrev pub PooledPlace : Type 0
PooledPlace =
    (header marker slots : List ℕ) (n s : ℕ) → call_says header marker n (length slots) ≡ Done
    → spare_slots_empty (plan_in header marker) slots ≡ true → s < layouts.layout_symbols (plan_in header marker).layout
    → ((i : ℕ) → i < s → pooled_in (plan_in header marker) slots i < (plan_in header marker).order)
    → (plan_in header marker).order ≤ pooled_in (plan_in header marker) slots s
    → run_read_says header marker slots n ≡ No 10 s

-- ---- "Whatever is written is still accepted and gives its frames", at every factor

abbrev pub RepeatedWrittenRead : Type 0
RepeatedWrittenRead =
    (header marker frames : List ℕ) (n : ℕ) → Bytes frames → run_write_says header marker frames n ≡ Done
    → (run_read_says header marker (runs.run_of header marker frames) (length frames) ≡ Done)
    × (runs.frames_read header marker (runs.run_of header marker frames) ≡ frames)

-- and in the lent slices
abbrev pub RepeatedThereAndBack : Type 0
RepeatedThereAndBack =
    (header marker frames slots back : List ℕ) → Bytes frames → run_write_says header marker frames (length slots) ≡ Done
    → length back ≡ length frames → frames_after header marker (slots_after header marker frames slots) back ≡ frames

-- ---- what is promised, all of it: the contract of `card_5`
pub record Card5 : Type 0 where
  pub factors : Factors
  pub other_factors : OtherFactors
  pub run_factor_refused : RunFactorRefused
  pub copies_sent : CopiesSent
  pub none_behind : NoneBehind
  pub sent_lengths : SentLengths
  pub largest_sent : LargestSent
  pub counts : Counts
  pub pooled_is : PooledIs
  pub pooled_only : PooledOnly
  pub pooled_most : PooledMost
  pub one_copy : OneCopy
  pub one_copy_asked : OneCopyAsked
  pub one_pulse_exactly : OnePulseExactly
  pub pools_to_is : PoolsToIs
  pub repeated_accepted : RepeatedAccepted
  pub repeated_only : RepeatedOnly
  pub pooled_place : PooledPlace
  pub repeated_written_read : RepeatedWrittenRead
  pub repeated_there_and_back : RepeatedThereAndBack
