-- The terms in which the promises speak of questions and answers, each by equations of its own: the first no gives its number and its place, a refused call leaves
-- the lent slice as it was, and C gets place × 256 + number. A part of demand 1.
use Rattle.std.specs.Prelude.{◌≡◌, Bool, true, false, ◌||◌, List, [], ◌∷◌, ℕ, ◌+◌, ◌*◌, ◌<◌, eqb}
use Rattle.bits.specs.Basics.{both}
use Rattle.answers.specs.Answer.{Answer, Done, No, number_of, place_of, code_of, ask, then, after, put_in_order, among}

-- ---- how questions follow one another

-- one question: yes, or its number and place; two tests that must both hold; and the first no, which counts
abbrev pub AskIs : Type 0
AskIs = (number place : ℕ) → (ask true number place ≡ Done) × (ask false number place ≡ No number place)

abbrev pub BothIs : Type 0
BothIs = (t : Bool) → (both true t ≡ t) × (both false t ≡ false)

abbrev pub ThenIs : Type 0
ThenIs = (rest : Answer) (number place : ℕ) → (then Done rest ≡ rest) × (then (No number place) rest ≡ No number place)

-- of n pieces, one after another, the lowest that is refused gives its number, and its index is the place
abbrev pub InOrderIs : Type 0
InOrderIs =
    (n : ℕ) (say : ℕ → Answer)
    → (((j : ℕ) → j < n → say j ≡ Done) → put_in_order n say ≡ Done)
    × ((j number place : ℕ) → j < n → ((i : ℕ) → i < j → say i ≡ Done) → say j ≡ No number place → put_in_order n say ≡ No number j)

-- the number and place of an answer, and whether a number is one of a list
abbrev pub NumberIs : Type 0
NumberIs = (number place : ℕ) → (number_of Done ≡ 0) × (number_of (No number place) ≡ number) × (place_of Done ≡ 0) × (place_of (No number place) ≡ place)

abbrev pub AmongIs : Type 0
AmongIs = (n number : ℕ) (ns : List ℕ) → (among [] number ≡ false) × (among (n ∷ ns) number ≡ eqb number n || among ns number)

-- ---- what the slice that was lent for a result holds afterwards: the names with `After` that the contracts of `c_calls` cite; no other slice is
-- written

-- the result on acceptance, and after a refusal what it held: of every call that is lent a slice for a result, except for the rack calls (Card10)
abbrev pub AfterIs : Type 0
AfterIs = (new old : List ℕ) (number place : ℕ) → (after Done new old ≡ new) × (after (No number place) new old ≡ old)

-- ---- what C gets: place × 256 + number, and 0 where all is done

abbrev pub RefusedCode : Type 0
RefusedCode = (number place : ℕ) → code_of (No number place) ≡ place * 256 + number

abbrev pub AcceptedCode : Type 0
AcceptedCode = code_of Done ≡ 0

-- ---- what is promised, all of it: a part of the contract of `demand_1`
pub record Answers : Type 0 where
  pub ask_is : AskIs
  pub both_is : BothIs
  pub then_is : ThenIs
  pub in_order_is : InOrderIs
  pub number_is : NumberIs
  pub among_is : AmongIs
  pub after_is : AfterIs
  pub refused_code : RefusedCode
  pub accepted_code : AcceptedCode
