-- Sums of digits by doubling: a number whose digits are sums of n digits, plus itself shifted down past them, has the sums of 2 n.
-- Digits are counted from below.
use mathlib.Core.Path.{◌≡◌, sym, ap, ap₂, ◌∙◌}
use Prim.Native.Nat.{ℕ, zero, suc, ◌+◌, ◌*◌, ◌/◌, ◌%◌, ◌^◌}
use native.Mathlib.Omega.{arith}
use native.Mathlib.Nat.{add-zero, add-suc, mul-add}
use lib.Bits.{bit_xor, xor_zero_l, xor_zero_r}
use lib.Pow.{shr-shr}
use Rattle.bits.proofs.Laws.Sum.{xor_assoc, xor_digit}
use Rattle.bits.specs.Count.{xor_sum}
use Rattle.bits.proofs.Laws.XorSum.{xor_sum_same}

abbrev pub digit : ℕ → ℕ → ℕ
digit v d = v / 2 ^ d % 2

-- each digit of x is the sum of n values of f, s apart
abbrev pub Sums : (ℕ → ℕ) → ℕ → ℕ → ℕ → Type 0
Sums f s n x = (d : ℕ) → digit x d ≡ xor_sum (λ i. f (d + s * i)) n

-- n terms more
pub xor_sum_on : (f : ℕ → ℕ) (m n : ℕ) → xor_sum f (m + n) ≡ bit_xor (xor_sum f m) (xor_sum (λ i. f (m + i)) n)
unfolding xor_sum
xor_sum_on f m zero = rw add-zero (sym (xor_zero_r (xor_sum f m)))
xor_sum_on f m (suc n) =
    rw add-suc
    (ap (λ (s : ℕ). bit_xor s (f (m + n))) (xor_sum_on f m n) ∙ xor_assoc (xor_sum f m) (xor_sum (λ i. f (m + i)) n) (f (m + n)))

-- the first of them, where the one after them is 0
pub xor_sum_first : (f : ℕ → ℕ) (n : ℕ) → f n ≡ 0 → xor_sum f n ≡ bit_xor (f 0) (xor_sum (λ i. f (suc i)) n)
unfolding xor_sum
xor_sum_first f n z =
    let e : suc n ≡ 1 + n = omega arith in
    sym (ap (bit_xor (xor_sum f n)) z ∙ xor_zero_r (xor_sum f n))
    ∙ ap (xor_sum f) e
    ∙ xor_sum_on f 1 n
    ∙ ap₂ bit_xor (xor_zero_l (f 0)) (xor_sum_same (λ i. f (1 + i)) (λ i. f (suc i)) n (λ i l. ap f (omega arith)))

pub sums_one : (v s : ℕ) → Sums (digit v) s 1 v
unfolding xor_sum
sums_one v s d = sym (xor_zero_l (digit v (d + s * 0)) ∙ ap (digit v) (omega arith))

pub sums_twice : (f : ℕ → ℕ) (s n x : ℕ) → Sums f s n x → Sums f s (n + n) (bit_xor x (x / 2 ^ (s * n)))
sums_twice f s n x h d =
    xor_digit x (x / 2 ^ (s * n)) d
    ∙ ap₂ bit_xor (h d)
    (ap (λ (v : ℕ). v % 2) (shr-shr x (s * n) d)
    ∙ h (s * n + d)
    ∙ xor_sum_same (λ i. f (s * n + d + s * i)) (λ i. f (d + s * (n + i))) n (λ i l. ap f (omega (arith, mul-add s n i))))
    ∙ sym (xor_sum_on (λ i. f (d + s * i)) n n)
