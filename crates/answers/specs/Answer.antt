-- What an answer is: done, or the number of the first question answered no, with its place; how questions follow one another; what a
-- lent slice holds afterwards; and the one number that C gets.
use Rattle.std.specs.Prelude.{Bool, true, false, ◌||◌, List, [], ◌∷◌, ℕ, ◌+◌, ◌*◌, eqb}
use Rattle.bits.specs.Basics.{up_to}

-- done, or the number of the question that was answered no, and the place
pub data Answer : Type 0 where
  Done : Answer
  No : ℕ → ℕ → Answer

-- the number of the question that was answered no; 0 on acceptance
abbrev pub number_of : Answer → ℕ
number_of Done = 0
number_of (No number place) = number

abbrev pub place_of : Answer → ℕ
place_of Done = 0
place_of (No number place) = place

-- C gets both as one number
abbrev pub code_of : Answer → ℕ
code_of a = place_of a * 256 + number_of a

-- where an acceptance gives a number too, it takes the position of a refusal's place
abbrev pub code_with : Answer → ℕ → ℕ
code_with Done given = given * 256
code_with (No number place) given = code_of (No number place)

-- one question: yes, or its number and place
abbrev pub ask : Bool → ℕ → ℕ → Answer
ask true number place = Done
ask false number place = No number place

-- questions in order: the first no counts
abbrev pub then : Answer → Answer → Answer
then Done rest = rest
then (No number place) rest = No number place

-- what the slice for a result holds afterwards: the result on acceptance, otherwise what it held before
abbrev pub after : Answer → List ℕ → List ℕ → List ℕ
after Done new old = new
after (No number place) new old = old

-- whether all was answered yes
abbrev pub is_done : Answer → Bool
is_done Done = true
is_done (No number place) = false

-- Pieces of one kind, asked one after another: the first that is refused gives its number, with its index as the place.

-- the first of n pieces that is refused, or n
unfoldable pub first_refused : ℕ → (ℕ → Answer) → ℕ
first_refused n say = up_to (λ j. is_done (say j)) 0 n

unfoldable pub put_in_order : ℕ → (ℕ → Answer) → Answer
put_in_order n say = ask (eqb (first_refused n say) n) (number_of (say (first_refused n say))) (first_refused n say)

-- The numbers that an answer can have: every question's, and 0.

-- whether a number is one of these
abbrev pub among : List ℕ → ℕ → Bool
among [] number = false
among (n ∷ ns) number = eqb number n || among ns number
