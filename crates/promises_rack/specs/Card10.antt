-- Card 10. Whose run is it. "Four missions (0 to 3) now keep headers in the rack, four places (0 to 3) each, empty at the start. A mission may load,
-- read and drop in its own places and may lend reading of a loaded place to one other mission; a new loan ends the one before. Loading puts the
-- header questions that `runsheet` puts, the factor's included, then replaces what was there and keeps the loan. Dropping empties the place and ends
-- the loan. What a mission is told depends on its own calls, and otherwise only on the owner's calls to places that were at some time lent to it:
-- change the others' calls to all remaining places, lending none of those to it, and it is told the same. Reading an empty place and reading one not
-- lent get the same number. Turned away: 23 for a mission above 3 or a loan to oneself, 24 for a place above 3, 25 for another's place (save reading
-- one that is lent) or, except when loading, an empty one, put in this order before any question on a header."
--
-- The rack is the area of 176 bytes that `mahyrei_rack_load`, `mahyrei_rack_read`, `mahyrei_rack_drop` and `mahyrei_rack_lend` are lent, and nothing else; zeros are the empty rack.
-- A call is `call_of caller owner place task`, its task `Load header`, `Read slice`, `Drop` or `Lend to`. The definitions are those that the contracts of the four cite (crate
-- `c_calls`): `after_call` is the area after a call, `told_of` what its caller is told, that is, the number that C gets and, in reading, what the slice for the header then holds.
-- `says` is the answer behind that number. `entry_at area o p` is the entry of place p of mission o: whether it is `loaded`, and the header in it (`header_in`). `lent m area o p` is
-- whether that place is lent to mission m. Callers, owners, places and the area are arbitrary unless it says otherwise.
use Rattle.std.specs.Prelude.{◌≡◌, Bool, true, false, not, ◌||◌, List, [], ◌∷◌, ◌++◌, ◌⊎◌, ℕ, ◌+◌, ◌*◌, ◌≤◌, ◌<◌, ltb, eqb, length, get_or, replicate}
use Rattle.bits.specs.Basics.{both}
use Rattle.answers.specs.Answer.{Done, No, number_of, place_of, ask, then, among}
use Rattle.header_questions.specs.Questions.{header_says}
use Rattle.rack.specs.Rack.{entry_at, header_in, loaded, lent_to, Task, Load, Read, Drop, Lend, Call, call_of, says, after_call, told_of}
use Rattle.rack.specs.Traces.{after_all, heard, lent, ever_lent, kept}

-- ---- the names

-- The entry of place p of mission o is the eleven bytes from byte 11 (4 o + p) on, a status and a header. The status is 0 where the place is empty, and
-- 2 + m where it is lent to mission m.
abbrev pub LoadedIs : Type 0
LoadedIs = (area : List ℕ) (o p : ℕ) → loaded (entry_at area o p) ≡ not (eqb (get_or area (11 * (4 * o + p)) 0) 0)

abbrev pub HeaderIs : Type 0
HeaderIs =
    (area : List ℕ) (o p : ℕ)
    → (length (header_in (entry_at area o p)) ≡ 10)
    × ((k : ℕ) → k < 10 → get_or (header_in (entry_at area o p)) k 0 ≡ get_or area (11 * (4 * o + p) + 1 + k) 0)

abbrev pub LentIs : Type 0
LentIs =
    (m : ℕ) (area : List ℕ) (o p : ℕ)
    → lent m area o p ≡ both (both (ltb o 4) (ltb p 4)) (both (ltb m 4) (eqb (get_or area (11 * (4 * o + p)) 0) (2 + m)))

-- A call has the parts that it is made of.
abbrev pub CallIs : Type 0
CallIs =
    (c o p : ℕ) (task : Task)
    → ((call_of c o p task).caller ≡ c) × ((call_of c o p task).owner ≡ o) × ((call_of c o p task).place ≡ p) × ((call_of c o p task).task ≡ task)

-- what is told is the number, and in reading the slice: the header of the place where the number is 0, and otherwise what it held
abbrev pub ToldIs : Type 0
ToldIs =
    (area : List ℕ) (c o p : ℕ)
    → ((task : Task) → (told_of area (call_of c o p task)).code ≡ number_of (says area (call_of c o p task)))
    × ((slice : List ℕ) (number place : ℕ) → says area (call_of c o p (Read slice)) ≡ No number place → (told_of area (call_of c o p (Read slice))).slice ≡ slice)
    × ((slice : List ℕ) → says area (call_of c o p (Read slice)) ≡ Done → (told_of area (call_of c o p (Read slice))).slice ≡ header_in (entry_at area o p))

-- calls in a row: each finds the area that the one before it left
abbrev pub AfterAllIs : Type 0
AfterAllIs = (area : List ℕ) → (after_all area [] ≡ area) × ((call : Call) (t : List Call) → after_all area (call ∷ t) ≡ after_all (after_call area call) t)

-- all that m is told, call by call
abbrev pub HeardIs : Type 0
HeardIs =
    (m : ℕ) (area : List ℕ)
    → (heard m area [] ≡ [])
    × ((call : Call) (t : List Call) → call.caller ≡ m → heard m area (call ∷ t) ≡ told_of area call ∷ heard m (after_call area call) t)
    × ((call : Call) (t : List Call) → (call.caller ≡ m → ⊥) → heard m area (call ∷ t) ≡ heard m (after_call area call) t)

-- lent at some time: now, or after the next call
abbrev pub EverLentIs : Type 0
EverLentIs =
    (m : ℕ) (area : List ℕ) (o p : ℕ)
    → (ever_lent m area [] o p ≡ lent m area o p)
    × ((call : Call) (t : List Call) → ever_lent m area (call ∷ t) o p ≡ (lent m area o p || ever_lent m (after_call area call) t o p))

-- the calls that are kept: m's own, and an owner's to one of the places
abbrev pub KeptIs : Type 0
KeptIs =
    (m : ℕ) (places : ℕ → ℕ → Bool)
    → (kept m places [] ≡ [])
    × ((call : Call) (t : List Call) → (call.caller ≡ m) ⊎ ((call.caller ≡ call.owner) × (places call.owner call.place ≡ true)) → kept m places (call ∷ t) ≡ call ∷ kept m places t)
    × ((call : Call) (t : List Call) → (call.caller ≡ m → ⊥) → ((call.caller ≡ call.owner) × (places call.owner call.place ≡ true) → ⊥) → kept m places (call ∷ t) ≡ kept m places t)

-- ---- what a mission is told

-- A trace is a list of calls of all missions, from any area. `heard m area t` is all that mission m is told in it. `everLent m area t o p` is whether
-- place p of mission o is lent to m at some time, before the first call, between two or after the last. `kept m places t` are those calls of t that m
-- makes, and those that an owner makes to one of its `places`, in their order.

-- "What a mission is told depends on its own calls, and otherwise only on the owner's calls to places that were at some time lent to it": it is told
-- what it would be told if these calls alone had been made.
abbrev pub ToldByThese : Type 0
ToldByThese = (m : ℕ) (area : List ℕ) (t : List Call) → heard m area t ≡ heard m area (kept m (ever_lent m area t) t)

-- "Change the others' calls to all remaining places, lending none of those to it, and it is told the same": u may differ from t in all other calls,
-- changed, added or removed, but lends m no place that t does not. So a third mission's calls to a place that is lent to m do not matter either.
abbrev pub ToldSame : Type 0
ToldSame =
    (m : ℕ) (area : List ℕ) (t u : List Call)
    → kept m (ever_lent m area t) t ≡ kept m (ever_lent m area t) u
    → ((o p : ℕ) → ever_lent m area u o p ≡ true → ever_lent m area t o p ≡ true)
    → heard m area t ≡ heard m area u

-- "Reading an empty place and reading one not lent get the same number", 25, and the slice stays as it was.
abbrev pub EmptyAsUnlent : Type 0
EmptyAsUnlent =
    (area : List ℕ) (c o p : ℕ) → c < 4 → o < 4 → p < 4 → (slice : List ℕ)
    → (loaded (entry_at area o p) ≡ false → told_of area (call_of c o p (Read slice)) ≡ record { code = 25; slice = slice })
    × ((c ≡ o → ⊥) → lent c area o p ≡ false → told_of area (call_of c o p (Read slice)) ≡ record { code = 25; slice = slice })

-- ---- the places

-- "Empty at the start".
abbrev pub EmptyAtStart : Type 0
EmptyAtStart = (o p : ℕ) → (loaded (entry_at (replicate 176 0) o p) ≡ false) × ((m : ℕ) → lent m (replicate 176 0) o p ≡ false)

-- "A mission may load .. and drop in its own places and may lend reading of a loaded place to one other mission".
abbrev pub MayChange : Type 0
MayChange =
    (area : List ℕ) (c p : ℕ) → c < 4 → p < 4 → length area ≡ 176
    → ((header : List ℕ) → header_says header ≡ Done → says area (call_of c c p (Load header)) ≡ Done)
    × (loaded (entry_at area c p) ≡ true → says area (call_of c c p Drop) ≡ Done)
    × ((to : ℕ) → loaded (entry_at area c p) ≡ true → to < 4 → (to ≡ c → ⊥) → says area (call_of c c p (Lend to)) ≡ Done)

-- It may read them, and a mission may read what is lent to it: what is in the place is what it is told.
abbrev pub MayRead : Type 0
MayRead =
    (area : List ℕ) (c o p : ℕ) → c < 4 → o < 4 → p < 4 → (slice : List ℕ) → loaded (entry_at area o p) ≡ true → (c ≡ o) ⊎ (lent c area o p ≡ true)
    → length area ≡ 176 → length slice ≡ 10 → told_of area (call_of c o p (Read slice)) ≡ record { code = 0; slice = header_in (entry_at area o p) }

-- Loading "replaces what was there": what the owner loaded is what the owner, and each mission that the place is lent to, reads after any calls of
-- which no accepted one loads or drops there. A refused one may.
abbrev pub Untouched : List ℕ → ℕ → ℕ → List Call → Type 0
Untouched area o p t =
    (u v : List Call) (c : ℕ)
    → ((header : List ℕ) → t ≡ u ++ call_of c o p (Load header) ∷ v → says (after_all area u) (call_of c o p (Load header)) ≡ Done → ⊥)
    × (t ≡ u ++ call_of c o p Drop ∷ v → says (after_all area u) (call_of c o p Drop) ≡ Done → ⊥)

abbrev pub LoadedIsRead : Type 0
LoadedIsRead =
    (area : List ℕ) (o p : ℕ) (header : List ℕ) → says area (call_of o o p (Load header)) ≡ Done
    → (t : List Call) → Untouched (after_call area (call_of o o p (Load header))) o p t
    → (c : ℕ) (slice : List ℕ) → c < 4 → length slice ≡ 10
    → (c ≡ o) ⊎ (lent c (after_all (after_call area (call_of o o p (Load header))) t) o p ≡ true)
    → told_of (after_all (after_call area (call_of o o p (Load header))) t) (call_of c o p (Read slice)) ≡ record { code = 0; slice = header }

-- It "keeps the loan": whether it is accepted or not, and whoever loads, every place is lent as before.
abbrev pub LoadKeepsLoans : Type 0
LoadKeepsLoans = (area : List ℕ) (c o p : ℕ) (header : List ℕ) (m x y : ℕ) → lent m (after_call area (call_of c o p (Load header))) x y ≡ lent m area x y

-- "Dropping empties the place and ends the loan", and nothing of the header is left.
abbrev pub DropEmpties : Type 0
DropEmpties =
    (area : List ℕ) (c o p : ℕ) → says area (call_of c o p Drop) ≡ Done
    → (entry_at (after_call area (call_of c o p Drop)) o p ≡ replicate 11 0) × ((m : ℕ) → lent m (after_call area (call_of c o p Drop)) o p ≡ false)

-- "To one other mission; a new loan ends the one before": after a loan the place is lent to that mission and to no other.
abbrev pub LentToOne : Type 0
LentToOne =
    (area : List ℕ) (c o p to : ℕ) → says area (call_of c o p (Lend to)) ≡ Done
    → (m : ℕ) → lent m (after_call area (call_of c o p (Lend to))) o p ≡ eqb m to

-- Only the owner lends: a place that a call leaves lent was lent before, or the call is its owner's loan.
abbrev pub OwnerLends : Type 0
OwnerLends =
    (area : List ℕ) (call : Call) (m o p : ℕ) → lent m (after_call area call) o p ≡ true
    → (lent m area o p ≡ true) ⊎ ((call ≡ call_of o o p (Lend m)) × (says area call ≡ Done))

-- A call changes no place but its own, none if it reads, none if its caller is not the owner, and none if it is refused.
abbrev pub OthersStay : Type 0
OthersStay =
    (area : List ℕ) (call : Call) (o p : ℕ) → p < 4 → ((call.owner ≡ o) × (call.place ≡ p) → ⊥) → entry_at (after_call area call) o p ≡ entry_at area o p

abbrev pub ReadChangesNothing : Type 0
ReadChangesNothing = (area : List ℕ) (c o p : ℕ) (slice : List ℕ) → after_call area (call_of c o p (Read slice)) ≡ area

abbrev pub StrangerChangesNothing : Type 0
StrangerChangesNothing = (area : List ℕ) (call : Call) → (call.caller ≡ call.owner → ⊥) → after_call area call ≡ area

abbrev pub RefusedChangesNothing : Type 0
RefusedChangesNothing = (area : List ℕ) (call : Call) (number place : ℕ) → says area call ≡ No number place → after_call area call ≡ area

-- From the empty rack on, the status byte of any entry is 0, 1 or 2 to 5,
abbrev pub StatusMost : Type 0
StatusMost = (t : List Call) (entry : ℕ) → get_or (after_all (replicate 176 0) t) (11 * entry) 0 ≤ 5

-- and every header in it has passed the questions that `runsheet` puts, and so has every header that is read.
abbrev pub HeadersGood : Type 0
HeadersGood =
    (t : List Call) (o p : ℕ) → o < 4 → p < 4 → loaded (entry_at (after_all (replicate 176 0) t) o p) ≡ true
    → header_says (header_in (entry_at (after_all (replicate 176 0) t) o p)) ≡ Done

abbrev pub ReadGood : Type 0
ReadGood =
    (t : List Call) (c o p : ℕ) (slice : List ℕ) → says (after_all (replicate 176 0) t) (call_of c o p (Read slice)) ≡ Done
    → header_says (told_of (after_all (replicate 176 0) t) (call_of c o p (Read slice))).slice ≡ Done

-- ---- the questions

-- "Turned away: 23 for a mission above 3 or a loan to oneself, 24 for a place above 3, 25 for another's place (save reading one that is lent) or, except
-- when loading, an empty one, put in this order before any question on a header." Then the header's, and 8 for the area's length or the slice's.
abbrev pub LoadAsks : Type 0
LoadAsks =
    (area : List ℕ) (c o p : ℕ) (header : List ℕ)
    → says area (call_of c o p (Load header))
    ≡ then (ask (both (ltb c 4) (ltb o 4)) 23 0)
    (then (ask (ltb p 4) 24 0)
    (then (ask (eqb c o) 25 0)
    (then (header_says header)
    (ask (eqb (length area) 176) 8 0))))

abbrev pub ReadAsks : Type 0
ReadAsks =
    (area : List ℕ) (c o p : ℕ) (slice entry : List ℕ) → entry ≡ entry_at area o p
    → says area (call_of c o p (Read slice))
    ≡ then (ask (both (ltb c 4) (ltb o 4)) 23 0)
    (then (ask (ltb p 4) 24 0)
    (then (ask (both (loaded entry) (eqb c o || lent_to c entry)) 25 0)
    (ask (both (eqb (length area) 176) (eqb (length slice) 10)) 8 0)))

abbrev pub DropAsks : Type 0
DropAsks =
    (area : List ℕ) (c o p : ℕ)
    → says area (call_of c o p Drop)
    ≡ then (ask (both (ltb c 4) (ltb o 4)) 23 0)
    (then (ask (ltb p 4) 24 0)
    (then (ask (both (loaded (entry_at area o p)) (eqb c o)) 25 0)
    (ask (eqb (length area) 176) 8 0)))

abbrev pub LendAsks : Type 0
LendAsks =
    (area : List ℕ) (c o p to : ℕ)
    → says area (call_of c o p (Lend to))
    ≡ then (ask (both (both (ltb c 4) (ltb o 4)) (both (ltb to 4) (not (eqb to c)))) 23 0)
    (then (ask (ltb p 4) 24 0)
    (then (ask (both (loaded (entry_at area o p)) (eqb c o)) 25 0)
    (ask (eqb (length area) 176) 8 0)))

-- No other number than these, no 17, and every refusal's place is 0.
abbrev pub LoadNumbers : Type 0
LoadNumbers =
    (area : List ℕ) (c o p : ℕ) (header : List ℕ)
    → among (0 ∷ 1 ∷ 2 ∷ 3 ∷ 4 ∷ 5 ∷ 6 ∷ 7 ∷ 8 ∷ 20 ∷ 23 ∷ 24 ∷ 25 ∷ []) (number_of (says area (call_of c o p (Load header)))) ≡ true

abbrev pub ReadNumbers : Type 0
ReadNumbers =
    (area : List ℕ) (c o p : ℕ) (slice : List ℕ) → among (0 ∷ 8 ∷ 23 ∷ 24 ∷ 25 ∷ []) (number_of (says area (call_of c o p (Read slice)))) ≡ true

abbrev pub DropNumbers : Type 0
DropNumbers = (area : List ℕ) (c o p : ℕ) → among (0 ∷ 8 ∷ 23 ∷ 24 ∷ 25 ∷ []) (number_of (says area (call_of c o p Drop))) ≡ true

abbrev pub LendNumbers : Type 0
LendNumbers = (area : List ℕ) (c o p to : ℕ) → among (0 ∷ 8 ∷ 23 ∷ 24 ∷ 25 ∷ []) (number_of (says area (call_of c o p (Lend to)))) ≡ true

abbrev pub RackNot17 : Type 0
RackNot17 = (area : List ℕ) (call : Call) → number_of (says area call) ≡ 17 → ⊥

abbrev pub Place0 : Type 0
Place0 = (area : List ℕ) (call : Call) → place_of (says area call) ≡ 0

-- ---- what is promised, all of it: the contract of `card_10`
pub record Card10 : Type 0 where
  pub loaded_is : LoadedIs
  pub header_is : HeaderIs
  pub lent_is : LentIs
  pub call_is : CallIs
  pub told_is : ToldIs
  pub after_all_is : AfterAllIs
  pub heard_is : HeardIs
  pub ever_lent_is : EverLentIs
  pub kept_is : KeptIs
  pub told_by_these : ToldByThese
  pub told_same : ToldSame
  pub empty_as_unlent : EmptyAsUnlent
  pub empty_at_start : EmptyAtStart
  pub may_change : MayChange
  pub may_read : MayRead
  pub loaded_is_read : LoadedIsRead
  pub load_keeps_loans : LoadKeepsLoans
  pub drop_empties : DropEmpties
  pub lent_to_one : LentToOne
  pub owner_lends : OwnerLends
  pub others_stay : OthersStay
  pub read_changes_nothing : ReadChangesNothing
  pub stranger_changes_nothing : StrangerChangesNothing
  pub refused_changes_nothing : RefusedChangesNothing
  pub status_most : StatusMost
  pub headers_good : HeadersGood
  pub read_good : ReadGood
  pub load_asks : LoadAsks
  pub read_asks : ReadAsks
  pub drop_asks : DropAsks
  pub lend_asks : LendAsks
  pub load_numbers_lem : LoadNumbers
  pub read_numbers : ReadNumbers
  pub drop_numbers : DropNumbers
  pub lend_numbers : LendNumbers
  pub rack_not_17 : RackNot17
  pub place_0 : Place0
