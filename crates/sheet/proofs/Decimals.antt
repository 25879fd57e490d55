-- The digits of the kit are ours, and 20 of them hold 64 bits.
use mathlib.Core.Path.{◌≡◌, refl, ap}
use mathlib.Core.Bool.{Bool, true, false}
use mathlib.Core.List.{List, [], ◌∷◌, ◌++◌}
use mathlib.Core.Logic.{⊎_elim}
use Prim.Native.Nat.{ℕ, zero, suc, ◌-◌, ◌*◌, ◌/◌, ◌%◌, ◌^◌, ◌≤◌, ◌<◌}
use native.Mathlib.Omega.{arith}
use native.Mathlib.Nat.{pow-suc, one-le-pow, pow-le-pow_right}
use lib.Dec.{ltb}
use lib.ListN.{length, length-append}
use borrow.Author.Tests.{lt-ltb, le-ltb}
use Rattle.io.specs.Digits.{last_digits, IsDigitCount}
use Rattle.bits.specs.Basics.{pick}
use Rattle.bits.proofs.Laws.Choice.{lt_or_le}
use Rattle.sheet.specs.Text.{digit, decimal_in, decimal}

decimal_in_short : (k n : ℕ) → length (decimal_in k n) ≤ k
unfolding decimal_in
decimal_in_short zero n = omega arith
decimal_in_short (suc k) n = cases (ltb n 10) (decimal_in_short k (n / 10))
  where
    rest : List ℕ
    rest = decimal_in k (n / 10)

    cases : (b : Bool) → length rest ≤ k → length (pick b (digit n ∷ []) (rest ++ (digit (n % 10) ∷ []))) ≤ suc k
    cases true l = omega arith
    cases false l = simp length-append (omega arith)

pub decimal_short : (n : ℕ) → length (decimal n) ≤ 20
unfolding decimal
decimal_short n = decimal_in_short 20 n

-- the digits of the kit are ours
digits_are : (r k n : ℕ) → r ≤ k → IsDigitCount 10 1 n r → last_digits 10 r n ≡ decimal_in k n
unfolding decimal_in
digits_are zero k n h f = absurd (let l = f.0 in omega arith)
digits_are (suc r) zero n h f = absurd (omega arith)
digits_are (suc zero) (suc k) n h f =
    let l : n < 10 = f.1 in
    let e : n % 10 ≡ n = omega arith in
    rw (lt-ltb n 10 l, e, lt-ltb n 10 l) refl
digits_are (suc (suc r)) (suc k) n h f =
    let most : n < 10 ^ suc r * 10 = rw (pow-suc 10 (suc r)) at f.1 in
    let one : suc (suc r) - 1 ≡ suc r = omega arith in
    let least : 10 ^ suc r ≤ n = rw one at (f.2 (omega arith)) in
    let split : 10 ^ suc r ≡ 10 ^ r * 10 = pow-suc 10 r in
    let ten : 10 ≤ n = let o : 1 ≤ 10 ^ r = one-le-pow r 10 (omega arith) in omega arith in
    let small : n % 10 < 10 = omega arith in
    let rest : last_digits 10 (suc r) (n / 10) ≡ decimal_in k (n / 10) =
    digits_are (suc r) k (n / 10) (omega arith) (
      omega arith,
      omega arith,
      λ l.
          let less : suc r - 1 ≡ r = omega arith in
          rw less (omega arith),
    ) in
    rw (le-ltb n 10 ten, lt-ltb (n % 10) 10 small) (ap (λ (x : List ℕ). x ++ (digit (n % 10) ∷ [])) rest)

-- of 64 bits, 20 places hold them
pub digits_decimal : (n r : ℕ) → r ≤ 20 → IsDigitCount 10 1 n r → last_digits 10 r n ≡ decimal n
unfolding decimal
digits_decimal n r h f = digits_are r 20 n h f

pub digits_few : (n r : ℕ) → n < 2 ^ 64 → IsDigitCount 10 1 n r → r ≤ 20
digits_few n r h f =
    ⊎_elim
    (λ (l : 20 < r).
    let least : 10 ^ (r - 1) ≤ n = f.2 (omega arith) in
    let up : 20 ≤ r - 1 = omega arith in
    let many : 10 ^ 20 ≤ 10 ^ (r - 1) = pow-le-pow_right (omega arith) up in
    absurd (omega arith))
    (λ (l : r ≤ 20). l)
    (lt_or_le 20 r)
