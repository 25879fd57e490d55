-- Tests as numbers, and the cases of a comparison.
use mathlib.Core.Path.{◌≡◌, refl}
use mathlib.Core.Bool.{Bool, true, false}
use mathlib.Core.Logic.{◌⊎◌, inl, inr, ⊎_elim}
use Prim.Native.Nat.{ℕ, ◌≤◌, ◌<◌}
use native.Mathlib.Omega.{arith}
use lib.Dec.{ltb, eqb}
use borrow.Author.Tests.{ltb-true, ltb-false, eqb-true, eqb-false}
use Rattle.bits.specs.Basics.{bool}

pub bool_lt : (b : Bool) → bool b < 2
bool_lt true = omega arith
bool_lt false = omega arith

pub bool_true : (b : Bool) → bool b ≡ 1 → b ≡ true
bool_true true e = refl
bool_true false e = absurd (omega arith)

pub bool_no : (b : Bool) → bool b ≡ 0 → b ≡ false
bool_no true e = absurd (omega arith)
bool_no false e = refl

pub bool_yes : (b : Bool) → (bool b ≡ 0 → ⊥) → b ≡ true
bool_yes true n = refl
bool_yes false n = absurd (n refl)

pub lt_or_le : (a b : ℕ) → (a < b) ⊎ (b ≤ a)
lt_or_le a b = cases (ltb a b) refl
  where
    cases : (t : Bool) → ltb a b ≡ t → (a < b) ⊎ (b ≤ a)
    cases true e = inl (ltb-true a b e)
    cases false e = inr (ltb-false a b e)

pub eq_or_ne : (a b : ℕ) → (a ≡ b) ⊎ (a ≡ b → ⊥)
eq_or_ne a b = cases (eqb a b) refl
  where
    cases : (t : Bool) → eqb a b ≡ t → (a ≡ b) ⊎ (a ≡ b → ⊥)
    cases true e = inl (eqb-true a b e)
    cases false e = inr (eqb-false a b e)

-- a bit is 0 or 1
pub bit_cases : (b : ℕ) → b < 2 → (b ≡ 0) ⊎ (b ≡ 1)
bit_cases b h = ⊎_elim (λ (l : b < 1). inl (omega arith)) (λ (l : 1 ≤ b). inr (omega arith)) (lt_or_le b 1)
