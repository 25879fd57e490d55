-- Sums of many bits modulo 2: one term, two sums added, the order exchanged.
use mathlib.Core.Path.{◌≡◌, refl, sym, ap, ap₂, ◌∙◌}
use mathlib.Core.Logic.{⊎_elim}
use Prim.Native.Nat.{ℕ, zero, suc, ◌*◌, ◌≤◌, ◌<◌}
use native.Mathlib.Omega.{arith}
use lib.Bits.{bit_xor, xor_zero_l, xor_zero_r}
use Rattle.bits.proofs.Laws.Choice.{bit_cases, lt_or_le}
use Rattle.bits.proofs.Laws.Sum.{xor_bit, xor_cross}
use Rattle.bits.specs.Pack.{Bits}
use Rattle.bits.specs.Count.{xor_sum}

pub xor_sum_bits : (f : ℕ → ℕ) → Bits f → (n : ℕ) → xor_sum f n < 2
unfolding xor_sum
xor_sum_bits f b zero = omega arith
xor_sum_bits f b (suc n) = xor_bit (xor_sum f n) (f n) (xor_sum_bits f b n) (b n)

pub xor_sum_same : (f g : ℕ → ℕ) (n : ℕ) → ((i : ℕ) → i < n → f i ≡ g i) → xor_sum f n ≡ xor_sum g n
unfolding xor_sum
xor_sum_same f g zero h = refl
xor_sum_same f g (suc n) h = ap₂ bit_xor (xor_sum_same f g n (λ i l. h i (omega arith))) (h n (omega arith))

pub xor_sum_none : (f : ℕ → ℕ) (n : ℕ) → ((i : ℕ) → i < n → f i ≡ 0) → xor_sum f n ≡ 0
unfolding xor_sum
xor_sum_none f zero h = refl
xor_sum_none f (suc n) h = ap₂ bit_xor (xor_sum_none f n (λ i l. h i (omega arith))) (h n (omega arith))

-- only f k counts
pub xor_sum_one : (f : ℕ → ℕ) (n k : ℕ) → k < n → ((i : ℕ) → i < n → (i ≡ k → ⊥) → f i ≡ 0) → xor_sum f n ≡ f k
unfolding xor_sum
xor_sum_one f zero k l h = absurd (omega arith)
xor_sum_one f (suc n) k l h =
    ⊎_elim
    (λ (m : k < n).
    ap₂ bit_xor (xor_sum_one f n k m (λ i q d. h i (omega arith) d)) (h n (omega arith) (λ e. omega arith)) ∙ xor_zero_r (f k))
    (λ (m : n ≤ k).
    let e : k ≡ n = omega arith in
    ap₂ bit_xor (xor_sum_none f n (λ i q. h i (omega arith) (λ d. omega arith))) (ap f (sym e)) ∙ xor_zero_l (f k))
    (lt_or_le k n)

pub xor_sum_plus : (f g : ℕ → ℕ) (n : ℕ) → xor_sum (λ i. bit_xor (f i) (g i)) n ≡ bit_xor (xor_sum f n) (xor_sum g n)
unfolding xor_sum
xor_sum_plus f g zero = refl
xor_sum_plus f g (suc n) =
    ap (λ (s : ℕ). bit_xor s (bit_xor (f n) (g n))) (xor_sum_plus f g n) ∙ xor_cross (xor_sum f n) (xor_sum g n) (f n) (g n)

-- a sum of sums may be taken either way
pub xor_sum_swap : (f : ℕ → ℕ → ℕ) (m n : ℕ) → xor_sum (λ j. xor_sum (λ i. f i j) m) n ≡ xor_sum (λ i. xor_sum (f i) n) m
unfolding xor_sum
xor_sum_swap f zero n = xor_sum_none (λ j. 0) n (λ j l. refl)
xor_sum_swap f (suc m) n =
    xor_sum_plus (λ j. xor_sum (λ i. f i j) m) (f m) n ∙ ap (λ (s : ℕ). bit_xor s (xor_sum (f m) n)) (xor_sum_swap f m n)

-- a bit may be taken out
pub xor_sum_times : (b : ℕ) → b < 2 → (f : ℕ → ℕ) (n : ℕ) → xor_sum (λ i. b * f i) n ≡ b * xor_sum f n
xor_sum_times b h f n =
    ⊎_elim
    (λ (e : b ≡ 0). rw e (xor_sum_none (λ i. 0 * f i) n (λ i l. omega arith) ∙ omega arith))
    (λ (e : b ≡ 1). rw e (xor_sum_same (λ i. 1 * f i) f n (λ i l. omega arith) ∙ omega arith))
    (bit_cases b h)
