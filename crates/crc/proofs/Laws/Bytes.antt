-- The register a byte at a time.
use mathlib.Core.Path.{◌≡◌, refl, sym, ap, ap₂, ◌∙◌}
use Prim.Native.Nat.{ℕ, zero, suc, ◌+◌, ◌^◌, ◌<◌}
use native.Mathlib.Omega.{arith}
use native.Mathlib.Nat.{add-zero, add-suc}
use lib.Bits.{bit_xor}
use Rattle.bits.specs.Pack.{Bits}
use Rattle.crc.specs.Check.{advance, register}
use Rattle.crc.proofs.Laws.Check.{advance_lt, advance_plus}
use Rattle.crc.specs.Inner.{advances}

-- ---- laws

pub advances_lt : (r : ℕ) (x : ℕ → ℕ) → r < 2 ^ 32 → Bits x → (n : ℕ) → advances r x n < 2 ^ 32
unfolding advances
advances_lt r x hr hx zero = hr
advances_lt r x hr hx (suc n) = advance_lt (advances r x n) (x n) (advances_lt r x hr hx n) (hx n)

pub advances_same : (r : ℕ) (x y : ℕ → ℕ) (n : ℕ) → ((i : ℕ) → i < n → x i ≡ y i) → advances r x n ≡ advances r y n
unfolding advances
advances_same r x y zero h = refl
advances_same r x y (suc n) h = ap₂ advance (advances_same r x y n (λ i l. h i (omega arith))) (h n (omega arith))

pub advances_plus : (r s : ℕ) (x y : ℕ → ℕ) → r < 2 ^ 32 → s < 2 ^ 32 → Bits x → Bits y → (n : ℕ)
    → advances (bit_xor r s) (λ i. bit_xor (x i) (y i)) n ≡ bit_xor (advances r x n) (advances s y n)
unfolding advances
advances_plus r s x y hr hs hx hy zero = refl
advances_plus r s x y hr hs hx hy (suc n) =
    ap (λ (t : ℕ). advance t (bit_xor (x n) (y n))) (advances_plus r s x y hr hs hx hy n)
    ∙ advance_plus (advances r x n) (advances s y n) (x n) (y n) (advances_lt r x hr hx n) (advances_lt s y hs hy n) (hx n) (hy n)

-- n bits more
pub advances_on : (r : ℕ) (x : ℕ → ℕ) (m n : ℕ) → advances r x (m + n) ≡ advances (advances r x m) (λ i. x (m + i)) n
unfolding advances
advances_on r x m zero = ap (advances r x) (add-zero m)
advances_on r x m (suc n) =
    ap (advances r x) (add-suc m n) ∙ ap (λ (s : ℕ). advance s (x (m + n))) (advances_on r x m n)

-- the register of step 2 begins as all ones
pub register_is : (x : ℕ → ℕ) (n : ℕ) → register x n ≡ advances 0xFFFFFFFF x n
unfolding register advances
register_is x zero = refl
register_is x (suc n) = ap (λ (r : ℕ). advance r (x n)) (register_is x n)

pub register_on : (x : ℕ → ℕ) (m n : ℕ) → register x (m + n) ≡ advances (register x m) (λ i. x (m + i)) n
register_on x m n =
    register_is x (m + n)
    ∙ advances_on 0xFFFFFFFF x m n
    ∙ ap (λ (r : ℕ). advances r (λ i. x (m + i)) n) (sym (register_is x m))
