-- Step 6 and its way back undo each other, and both keep bits, sums and equal bits.
use mathlib.Core.Path.{◌≡◌, refl, ap, ap₂, ◌∙◌}
use Prim.Native.Nat.{ℕ, zero, suc, ◌≤◌}
use native.Mathlib.Omega.{arith}
use lib.Bits.{bit_xor}
use Rattle.bits.proofs.Laws.Sum.{xor_cancel_r, xor_cross, xor_bit}
use Rattle.bits.specs.Pack.{Bits}
use Rattle.accumulator.specs.Accumulator.{accumulate, differentiate}

pub differentiate_accumulate : (f : ℕ → ℕ) (j : ℕ) → differentiate (accumulate f) j ≡ f j
unfolding accumulate differentiate
differentiate_accumulate f zero = refl
differentiate_accumulate f (suc j) = xor_cancel_r (f (suc j)) (accumulate f j)

pub accumulate_differentiate : (g : ℕ → ℕ) (j : ℕ) → accumulate (differentiate g) j ≡ g j
unfolding accumulate differentiate
accumulate_differentiate g zero = refl
accumulate_differentiate g (suc j) =
    ap (λ (a : ℕ). bit_xor (bit_xor (g (suc j)) (g j)) a) (accumulate_differentiate g j) ∙ xor_cancel_r (g (suc j)) (g j)

-- both are linear
pub accumulate_plus : (f g : ℕ → ℕ) (j : ℕ) → accumulate (λ i. bit_xor (f i) (g i)) j ≡ bit_xor (accumulate f j) (accumulate g j)
unfolding accumulate
accumulate_plus f g zero = refl
accumulate_plus f g (suc j) =
    ap (λ (a : ℕ). bit_xor (bit_xor (f (suc j)) (g (suc j))) a) (accumulate_plus f g j)
    ∙ xor_cross (f (suc j)) (g (suc j)) (accumulate f j) (accumulate g j)

pub differentiate_plus : (f g : ℕ → ℕ) (j : ℕ) → differentiate (λ i. bit_xor (f i) (g i)) j ≡ bit_xor (differentiate f j) (differentiate g j)
unfolding differentiate
differentiate_plus f g zero = refl
differentiate_plus f g (suc j) = xor_cross (f (suc j)) (g (suc j)) (f j) (g j)

pub accumulate_bits : (f : ℕ → ℕ) → Bits f → Bits (accumulate f)
unfolding accumulate
accumulate_bits f h zero = h 0
accumulate_bits f h (suc j) = xor_bit (f (suc j)) (accumulate f j) (h (suc j)) (accumulate_bits f h j)

pub differentiate_bits : (g : ℕ → ℕ) → Bits g → Bits (differentiate g)
unfolding differentiate
differentiate_bits g h zero = h 0
differentiate_bits g h (suc j) = xor_bit (g (suc j)) (g j) (h (suc j)) (h j)

-- an output depends on the inputs up to its own
pub accumulate_same : (f g : ℕ → ℕ) (j : ℕ) → ((i : ℕ) → i ≤ j → f i ≡ g i) → accumulate f j ≡ accumulate g j
unfolding accumulate
accumulate_same f g zero h = h 0 (omega arith)
accumulate_same f g (suc j) h = ap₂ bit_xor (h (suc j) (omega arith)) (accumulate_same f g j (λ i l. h i (omega arith)))

pub differentiate_same : (f g : ℕ → ℕ) (j : ℕ) → ((i : ℕ) → i ≤ j → f i ≡ g i) → differentiate f j ≡ differentiate g j
unfolding differentiate
differentiate_same f g zero h = h 0 (omega arith)
differentiate_same f g (suc j) h = ap₂ bit_xor (h (suc j) (omega arith)) (h j (omega arith))
