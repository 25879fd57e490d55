-- The search from a given slot on, which no card names. A recording holds many runs and begins inside one, and Card 1's search gives its first marker
-- alone; `mahyrei_run_find_from` gives the next one, from any slot on. Its questions, numbers and limits are Card 1's.
--
-- The contract of `mahyrei_run_find_from` is an equation with `find_from_code`, which is made of the answer `find_from_says` and, for an acceptance, of the slot
-- `first_fit_from` (capture_search/specs/Search.antt). `marker_means` and `run_means` (promises_runs/specs/Card1.antt) say what it means for the whole marker
-- to begin at a slot, `MarkerAt`, and for a run to do so, `RunAt`.
use Rattle.std.specs.Prelude.{◌≡◌, List, ℕ, ◌+◌, ◌-◌, ◌*◌, ◌^◌, ◌≤◌, ◌<◌, ltb, leb, eqb, length}
use Rattle.bits.specs.Basics.{both}
use Rattle.answers.specs.Answer.{Done, No, ask, then}
use Rattle.header.specs.Header.{fields_of}
use Rattle.header_sizes.specs.Quantities.{marker_bytes}
use Rattle.header_questions.specs.Questions.{run_says}
use Rattle.plan.specs.Plan.{plan_in}
use Rattle.run.specs.Run.{run_write_says}
use Rattle.capture_search.specs.Search.{first_fit_from, marker_slots, find_from_says, find_from_code, find_code, MarkerAt}
use Rattle.capture_cut.specs.Cut.{RunAt}

-- ---- the call

-- its questions: those of Card 1's search in the same order, and 19 asks about the slots from the given one on
abbrev pub FindFromAsks : Type 0
FindFromAsks =
    (header marker capture : List ℕ) (from : ℕ)
    → find_from_says header marker capture from
    ≡ then (run_says header marker)
    (then (ask (both (eqb (length marker) (marker_bytes (fields_of header))) (leb (length capture) (2 ^ 53))) 8 0)
    (ask (ltb (first_fit_from (plan_in header marker) capture from) (8 * length capture + 1 - marker_slots (plan_in header marker))) 19 0))

-- an acceptance goes to C as number 0 with the slot as its place, and a refusal as its own number and place
abbrev pub FindFromCodes : Type 0
FindFromCodes =
    (header marker capture : List ℕ) (from : ℕ)
    → (find_from_says header marker capture from ≡ Done
    → find_from_code header marker capture from ≡ first_fit_from (plan_in header marker) capture from * 256)
    × ((number place : ℕ) → find_from_says header marker capture from ≡ No number place
    → find_from_code header marker capture from ≡ place * 256 + number)

-- Card 1's search is this from slot 0
abbrev pub FromSlot0 : Type 0
FromSlot0 = (header marker capture : List ℕ) → find_code header marker capture ≡ find_from_code header marker capture 0

-- ---- the slot

-- the answer is not below the given slot, the whole marker begins there, and none that begins between them is passed over;
abbrev pub EarliestFrom : Type 0
EarliestFrom =
    (header marker capture : List ℕ) (from : ℕ) → find_from_says header marker capture from ≡ Done
    → (s : ℕ) → s ≡ first_fit_from (plan_in header marker) capture from
    → (from ≤ s) × MarkerAt header marker capture s × ((x : ℕ) → from ≤ x → x < s → MarkerAt header marker capture x → ⊥)

-- and where it begins at a slot, and at none between, that slot is the answer
abbrev pub FoundFrom : Type 0
FoundFrom =
    (header marker capture : List ℕ) (from : ℕ) → run_says header marker ≡ Done → length marker ≡ (fields_of header).markers → length capture ≤ 2 ^ 53
    → (s : ℕ) → from ≤ s → MarkerAt header marker capture s → ((x : ℕ) → from ≤ x → x < s → MarkerAt header marker capture x → ⊥)
    → find_from_code header marker capture from ≡ s * 256

-- from any slot between the given one and the answer, the answer is the same
abbrev pub FoundBetween : Type 0
FoundBetween =
    (header marker capture : List ℕ) (from : ℕ) → find_from_says header marker capture from ≡ Done
    → (x : ℕ) → from ≤ x → x ≤ first_fit_from (plan_in header marker) capture from
    → find_from_code header marker capture x ≡ find_from_code header marker capture from

-- a run that begins at slot s, each symbol sent once, is found from any slot up to s from which no earlier one fits
abbrev pub RunFoundFrom : Type 0
RunFoundFrom =
    (header marker frames : List ℕ) (n : ℕ) → run_write_says header marker frames n ≡ Done
    → (capture : List ℕ) (from s : ℕ) → length capture ≤ 2 ^ 53 → RunAt header marker frames capture s → (fields_of header).copies ≡ 1 → from ≤ s
    → ((x : ℕ) → from ≤ x → x < s → MarkerAt header marker capture x → ⊥)
    → find_from_code header marker capture from ≡ s * 256

-- ---- 19

-- it says that no slot fits from the given one on,
abbrev pub NoneFitsFrom : Type 0
NoneFitsFrom =
    (header marker capture : List ℕ) (from : ℕ) → find_from_says header marker capture from ≡ No 19 0
    → (x : ℕ) → from ≤ x → MarkerAt header marker capture x → ⊥

-- is the answer where none does,
abbrev pub NoneFromIs19 : Type 0
NoneFromIs19 =
    (header marker capture : List ℕ) (from : ℕ) → run_says header marker ≡ Done → length marker ≡ (fields_of header).markers
    → length capture ≤ 2 ^ 53 → ((x : ℕ) → from ≤ x → MarkerAt header marker capture x → ⊥)
    → find_from_says header marker capture from ≡ No 19 0

-- and for a slot beyond the capture, whatever its number
abbrev pub BeyondIs19 : Type 0
BeyondIs19 =
    (header marker capture : List ℕ) (from : ℕ) → run_says header marker ≡ Done → length marker ≡ (fields_of header).markers
    → length capture ≤ 2 ^ 53
    → 8 * length capture ≤ from
    → find_from_says header marker capture from ≡ No 19 0

-- ---- what is promised, all of it: the contract of `find_from`
pub record FindFrom : Type 0 where
  pub find_from_asks : FindFromAsks
  pub find_from_codes : FindFromCodes
  pub from_slot_0 : FromSlot0
  pub earliest_from : EarliestFrom
  pub found_from : FoundFrom
  pub found_between : FoundBetween
  pub run_found_from : RunFoundFrom
  pub none_fits_from : NoneFitsFrom
  pub none_from_is_19 : NoneFromIs19
  pub beyond_is_19 : BeyondIs19
