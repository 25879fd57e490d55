-- Choosing by a test, lists by index, and the first number that fails a test.
use Rattle.std.specs.Prelude.{Bool, true, false, ℕ, zero, suc, ◌-◌, List, [], ◌∷◌}

-- Choosing by a test, and deciding between two cases.

-- the first where the test holds, else the second
abbrev pub pick : {A : Type 0} → Bool → A → A → A
pick true a b = a
pick false a b = b

-- a test as a number: 1 where it holds
abbrev pub bool : Bool → ℕ
bool true = 1
bool false = 0

-- A list by index. `tab` is shut, so that no length is ever counted out; its laws say all there is to know.

-- the list f 0, f 1, .. f (n - 1)
unfoldable pub tab : ℕ → (ℕ → ℕ) → List ℕ
tab zero f = []
tab (suc n) f = f 0 ∷ tab n (λ i. f (suc i))

-- whether two tests both hold
abbrev pub both : Bool → Bool → Bool
both true b = b
both false b = false

-- The first number that fails a test. Each question with a place asks for one, and each question over a range is `none fails`.

-- of the n numbers from i on, the first that fails; i + n where none does
unfoldable pub first_from : (ℕ → Bool) → ℕ → ℕ → ℕ
first_from p zero i = i
first_from p (suc n) i = pick (p i) (first_from p n (suc i)) i

-- from x up to the end
abbrev pub up_to : (ℕ → Bool) → ℕ → ℕ → ℕ
up_to p x end = first_from p (end - x) x
