-- How a change of the block shows in its check.
use mathlib.Core.Path.{◌≡◌, refl, sym, ap, ap₂, ◌∙◌}
use mathlib.Core.Logic.{⊎_elim}
use Prim.Native.Nat.{ℕ, ◌-◌, ◌≤◌, ◌<◌}
use native.Mathlib.Omega.{arith}
use lib.Bits.{bit_xor, xor_self}
use borrow.Author.Tests.{lt-ltb, le-ltb}
use Rattle.bits.proofs.Laws.Choice.{lt_or_le}
use Rattle.bits.specs.Pack.{Bits}
use Rattle.crc.specs.Check.{register, check_bit, checked}
use Rattle.crc.proofs.Laws.Check.{check_plus, check_bit_lem, checked_block_lem, checked_check}
use Rattle.crc.specs.Inner.{advances, checked_change}
use Rattle.crc.proofs.Laws.Bytes.{advances_same, advances_plus, register_is}

-- ---- laws

pub change_block : (k : ℕ) (d : ℕ → ℕ) (i : ℕ) → i < k → checked_change k d i ≡ d i
unfolding checked_change
change_block k d i h = rw (lt-ltb i k h) refl

pub change_check : (k : ℕ) (d : ℕ → ℕ) (i : ℕ) → k ≤ i → checked_change k d i ≡ check_bit (advances 0 d k) (i - k)
unfolding checked_change
change_check k d i h = rw (le-ltb i k h) refl

pub change_bits : (k : ℕ) (d : ℕ → ℕ) → Bits d → Bits (checked_change k d)
change_bits k d h i =
    ⊎_elim
    (λ (l : i < k). rw (change_block k d i l) (h i))
    (λ (l : k ≤ i). rw (change_check k d i l) (check_bit_lem (advances 0 d k) (i - k)))
    (lt_or_le i k)

-- it depends on the k bits alone
pub change_same : (k : ℕ) (d e : ℕ → ℕ) → ((i : ℕ) → i < k → d i ≡ e i) → (i : ℕ) → checked_change k d i ≡ checked_change k e i
change_same k d e h i =
    ⊎_elim
    (λ (l : i < k). change_block k d i l ∙ h i l ∙ sym (change_block k e i l))
    (λ (l : k ≤ i). change_check k d i l ∙ ap (λ (r : ℕ). check_bit r (i - k)) (advances_same 0 d e k h) ∙ sym (change_check k e i l))
    (lt_or_le i k)

-- the registers of two sequences differ by what zeros make of the sum of their bits
pub registers_plus : (x y : ℕ → ℕ) → Bits x → Bits y → (n : ℕ) → bit_xor (register x n) (register y n) ≡ advances 0 (λ i. bit_xor (x i) (y i)) n
registers_plus x y hx hy n =
    ap₂ bit_xor (register_is x n) (register_is y n)
    ∙ sym (advances_plus 0xFFFFFFFF 0xFFFFFFFF x y (omega arith) (omega arith) hx hy n)
    ∙ ap (λ (r : ℕ). advances r (λ i. bit_xor (x i) (y i)) n) (xor_self 0xFFFFFFFF)

-- and so do the bits with their check after them
pub checked_plus : (k : ℕ) (x y : ℕ → ℕ) → Bits x → Bits y → (i : ℕ)
    → bit_xor (checked k x i) (checked k y i) ≡ checked_change k (λ i. bit_xor (x i) (y i)) i
checked_plus k x y hx hy i =
    let d : ℕ → ℕ = λ i. bit_xor (x i) (y i) in
    ⊎_elim
    (λ (l : i < k). ap₂ bit_xor (checked_block_lem k x i l) (checked_block_lem k y i l) ∙ sym (change_block k d i l))
    (λ (l : k ≤ i).
    ap₂ bit_xor (checked_check k x i l) (checked_check k y i l)
    ∙ sym (check_plus (register x k) (register y k) (i - k))
    ∙ ap (λ (r : ℕ). check_bit r (i - k)) (registers_plus x y hx hy k)
    ∙ sym (change_check k d i l))
    (lt_or_le i k)
