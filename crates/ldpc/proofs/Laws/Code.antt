-- The codeword: its first half is the frame, and its bits are bits.
use mathlib.Core.Logic.{⊎_elim}
use mathlib.Core.Path.{◌≡◌, refl, sym, ap, ◌∙◌}
use Prim.Native.Nat.{ℕ, ◌-◌, ◌*◌, ◌≤◌, ◌<◌}
use native.Mathlib.Omega.{arith}
use borrow.Author.Tests.{lt-ltb, le-ltb}
use Rattle.bits.proofs.Laws.Choice.{lt_or_le, bit_cases}
use Rattle.bits.specs.Pack.{Bits}
use Rattle.bits.proofs.Laws.XorSum.{xor_sum_bits, xor_sum_same}
use Rattle.ldpc.specs.Code.{row_bit, parity_bit, codeword}

-- ---- laws

-- the information bits stand first
pub codeword_first : (u : ℕ → ℕ) (j : ℕ) → j < 64 → codeword u j ≡ u j
unfolding codeword
codeword_first u j l = rw (lt-ltb j 64 l) refl

pub codeword_behind : (u : ℕ → ℕ) (j : ℕ) → 64 ≤ j → codeword u j ≡ parity_bit u (j - 64)
unfolding codeword
codeword_behind u j l = rw (le-ltb j 64 l) refl

pub row_bits_lem : (i : ℕ) → Bits (row_bit i)
unfolding row_bit
row_bits_lem i t = omega arith

times_bit : (a b : ℕ) → a < 2 → b < 2 → a * b < 2
times_bit a b ha hb = ⊎_elim (λ (e : a ≡ 0). rw e (omega arith)) (λ (e : a ≡ 1). rw e (omega arith)) (bit_cases a ha)

-- a bit of a row that counts or not
pub counted_bits : (u : ℕ → ℕ) → Bits u → (t : ℕ) → Bits (λ i. u i * row_bit i t)
counted_bits u b t i = times_bit (u i) (row_bit i t) (b i) (row_bits_lem i t)

pub parity_bits : (u : ℕ → ℕ) → Bits u → Bits (parity_bit u)
unfolding parity_bit
parity_bits u b t = xor_sum_bits (λ i. u i * row_bit i t) (counted_bits u b t) 64

pub codeword_bits : (u : ℕ → ℕ) → Bits u → Bits (codeword u)
codeword_bits u b j =
    ⊎_elim (λ (l : j < 64). rw (codeword_first u j l) (b j)) (λ (l : 64 ≤ j). rw (codeword_behind u j l) (parity_bits u b (j - 64))) (lt_or_le j 64)

-- a codeword depends on its information bits alone
pub parity_same : (u v : ℕ → ℕ) → ((i : ℕ) → i < 64 → u i ≡ v i) → (t : ℕ) → parity_bit u t ≡ parity_bit v t
unfolding parity_bit
parity_same u v h t = xor_sum_same (λ i. u i * row_bit i t) (λ i. v i * row_bit i t) 64 (λ i l. ap (λ (b : ℕ). b * row_bit i t) (h i l))

pub codeword_same : (u v : ℕ → ℕ) → ((i : ℕ) → i < 64 → u i ≡ v i) → (j : ℕ) → codeword u j ≡ codeword v j
codeword_same u v h j =
    ⊎_elim
    (λ (l : j < 64). codeword_first u j l ∙ h j l ∙ sym (codeword_first v j l))
    (λ (l : 64 ≤ j). codeword_behind u j l ∙ parity_same u v h (j - 64) ∙ sym (codeword_behind v j l))
    (lt_or_le j 64)
