-- The rack: missions 0 to 3 keep headers in it, each in its own places 0 to 3. What the four calls say, and what they make of the rack.
--
-- The rack is an area of 176 lent bytes and nothing else: 16 entries of 11 bytes, that of place p of mission o at byte 11 (4 o + p). An entry is a
-- status byte and the ten bytes of a header:
--
--     0               empty
--     2 + m, m 0 .. 3 loaded, and lent to mission m
--     any other       loaded, and lent to nobody
--
-- So every content has a meaning, and the empty rack is zeros. A byte that is not there is read as 0.
use Rattle.std.specs.Prelude.{Bool, true, not, ◌||◌, List, [], ◌∷◌, ℕ, ◌+◌, ◌*◌, ◌/◌, ◌%◌, ltb, eqb, length, get_or, drop, replicate}
use Rattle.bits.specs.Basics.{pick, tab, both}
use Rattle.answers.specs.Answer.{Answer, Done, code_of, ask, then, after}
use Rattle.header_questions.specs.Questions.{header_says}

-- ---- entries

-- which entry is that of place p of mission o
abbrev pub entry_number : ℕ → ℕ → ℕ
entry_number o p = 4 * o + p

unfoldable pub entry_at : List ℕ → ℕ → ℕ → List ℕ
entry_at area o p = tab 11 (λ k. get_or area (11 * entry_number o p + k) 0)

-- the area with another entry there
unfoldable pub put : List ℕ → ℕ → ℕ → List ℕ → List ℕ
put area o p entry = tab (length area) (λ i. pick (eqb (i / 11) (entry_number o p)) (get_or entry (i % 11) 0) (get_or area i 0))

abbrev pub status_in : List ℕ → ℕ
status_in entry = get_or entry 0 0

abbrev pub header_in : List ℕ → List ℕ
header_in entry = drop 1 entry

unfoldable pub loaded : List ℕ → Bool
loaded entry = not (eqb (status_in entry) 0)

unfoldable pub lent_to : ℕ → List ℕ → Bool
lent_to m entry = both (ltb m 4) (eqb (status_in entry) (2 + m))

-- ---- calls

-- what a caller wants of a place: to load a header, to read the one there into a slice, to empty the place, to lend it to a mission
pub data Task : Type 0 where
  Load : List ℕ → Task
  Read : List ℕ → Task
  Drop : Task
  Lend : ℕ → Task

pub record Call : Type 0 where
  pub caller : ℕ
  pub owner : ℕ
  pub place : ℕ
  pub task : Task

abbrev pub call_of : ℕ → ℕ → ℕ → Task → Call
call_of caller owner place task = record { caller = caller; owner = owner; place = place; task = task }

-- ---- the questions

-- 23: are all missions of the call 0 to 3, and is a loan to another than the caller?
abbrev pub loan_right : ℕ → Task → Bool
loan_right caller (Load header) = true
loan_right caller (Read slice) = true
loan_right caller Drop = true
loan_right caller (Lend to) = both (ltb to 4) (not (eqb to caller))

unfoldable pub missions_right : Call → Bool
missions_right call = both (both (ltb call.caller 4) (ltb call.owner 4)) (loan_right call.caller call.task)

-- 24: is the place 0 to 3?
unfoldable pub place_right : Call → Bool
place_right call = ltb call.place 4

-- 25: is the place the caller's own, or, in reading, lent to it; and, except when loading, is it loaded?
abbrev pub allowed : ℕ → ℕ → Task → List ℕ → Bool
allowed caller owner (Load header) entry = eqb caller owner
allowed caller owner (Read slice) entry = both (loaded entry) (eqb caller owner || lent_to caller entry)
allowed caller owner Drop entry = both (loaded entry) (eqb caller owner)
allowed caller owner (Lend to) entry = both (loaded entry) (eqb caller owner)

-- the questions put to a header, which only a load has
abbrev pub header_asked : Task → Answer
header_asked (Load header) = header_says header
header_asked (Read slice) = Done
header_asked Drop = Done
header_asked (Lend to) = Done

-- 8: is the area 176 bytes, and a slice that a header is read into ten?
abbrev pub rack_lengths_right : ℕ → Task → Bool
rack_lengths_right area_length (Load header) = eqb area_length 176
rack_lengths_right area_length (Read slice) = both (eqb area_length 176) (eqb (length slice) 10)
rack_lengths_right area_length Drop = eqb area_length 176
rack_lengths_right area_length (Lend to) = eqb area_length 176

abbrev pub entry_for : List ℕ → Call → List ℕ
entry_for area call = entry_at area call.owner call.place

unfoldable pub says : List ℕ → Call → Answer
says area call =
    then (ask (missions_right call) 23 0)
    (then (ask (place_right call) 24 0)
    (then (ask (allowed call.caller call.owner call.task (entry_for area call)) 25 0)
    (then (header_asked call.task)
    (ask (rack_lengths_right (length area) call.task) 8 0))))

-- ---- what is done

-- the status of a place that is loaded: a loan stays
abbrev pub filled : ℕ → ℕ
filled status = pick (eqb status 0) 1 status

-- the entry after an accepted call: a loan ends the one before
abbrev pub entry_after : Task → List ℕ → List ℕ
entry_after (Load header) entry = filled (status_in entry) ∷ header
entry_after (Read slice) entry = entry
entry_after Drop entry = replicate 11 0
entry_after (Lend to) entry = (2 + to) ∷ header_in entry

-- the area after a call
unfoldable pub after_call : List ℕ → Call → List ℕ
after_call area call = after (says area call) (put area call.owner call.place (entry_after call.task (entry_for area call))) area

-- what the slice of a read holds afterwards
abbrev pub handed : Task → Answer → List ℕ → List ℕ
handed (Load header) answer entry = []
handed (Read slice) answer entry = after answer (header_in entry) slice
handed Drop answer entry = []
handed (Lend to) answer entry = []

-- what the caller is told: the number that C gets, and in reading the slice
pub record Told : Type 0 where
  pub code : ℕ
  pub slice : List ℕ

abbrev pub told_of : List ℕ → Call → Told
told_of area call = record { code = code_of (says area call); slice = handed call.task (says area call) (entry_for area call) }
