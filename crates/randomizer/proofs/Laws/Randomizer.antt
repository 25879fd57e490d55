-- The sequence by its rule, and randomizing twice, of bits, of equal bits and of sums.
use mathlib.Core.Path.{◌≡◌, sym, ap, ap₂, ◌∙◌}
use Prim.Native.Nat.{ℕ, zero, suc, ◌+◌, ◌-◌, ◌≤◌, ◌<◌}
use native.Mathlib.Omega.{arith}
use mathlib.Core.Logic.{⊎_elim}
use native.Mathlib.Nat.{add-zero}
use lib.Bits.{bit_xor, xor_self, xor_zero_r}
use lib.ListN.{length, get_or, take, replicate, get_or-replicate, length-take, get_or-eq_default}
use lib.Seq.{get_or-take}
use Rattle.bits.proofs.Laws.Choice.{lt_or_le}
use Rattle.bits.proofs.Laws.Sum.{xor_cross, xor_cancel_r, xor_bit, sum3, sum3_self, sum3_cross}
use Rattle.bits.specs.Pack.{Bits}
use Rattle.randomizer.specs.Randomizer.{next, window, sequence, randomize}

-- ---- what the sequence is, as the specification says it

-- the window's bits are the sequence's
pub window_bit : (i j : ℕ) → i < 8 → get_or (window j) (7 - i) 0 ≡ sequence (j + i)
unfolding window sequence next
window_bit zero j h = ap (λ (n : ℕ). get_or (window n) 7 0) (sym (add-zero j))
window_bit (suc i) j h =
    let e : 7 - i ≡ suc (7 - suc i) = omega arith in
    let s : j + suc i ≡ suc j + i = omega arith in
    sym (get_or-take 7 (window j) (7 - suc i) 0 (omega arith))
    ∙ ap (λ (n : ℕ). get_or (window (suc j)) n 0) (sym e)
    ∙ window_bit i (suc j) (omega arith)
    ∙ ap sequence (sym s)

pub sequence_start : (j : ℕ) → j < 8 → sequence j ≡ 1
unfolding window
sequence_start j h =
    let e : 0 + j ≡ j = omega arith in
    ap sequence (sym e) ∙ sym (window_bit j 0 h) ∙ get_or-replicate 8 (7 - j) 1 0 (omega arith)

pub sequence_later : (j : ℕ) → sequence (j + 8) ≡ bit_xor (bit_xor (sequence (j + 7)) (sequence (j + 5))) (bit_xor (sequence (j + 3)) (sequence j))
unfolding window next
sequence_later j =
    let e : j + 8 ≡ suc j + 7 = omega arith in
    let z : j + 0 ≡ j = omega arith in
    ap sequence e
    ∙ sym (window_bit 7 (suc j) (omega arith))
    ∙ ap₂ bit_xor
    (ap₂ bit_xor (window_bit 7 j (omega arith)) (window_bit 5 j (omega arith)))
    (ap₂ bit_xor (window_bit 3 j (omega arith)) (window_bit 0 j (omega arith) ∙ ap sequence z))

-- ---- laws

-- every bit of a window is a bit
window_bits : (j i : ℕ) → get_or (window j) i 0 < 2
unfolding window next
window_bits zero i = ⊎_elim
    (λ (l : i < 8). rw (get_or-replicate {A = ℕ} 8 i 1 0 l) (omega arith))
    (λ (l : 8 ≤ i). rw (get_or-eq_default (replicate {A = ℕ} 8 1) 0 l) (omega arith))
    (lt_or_le i 8)
window_bits (suc j) zero =
    xor_bit (bit_xor (get_or (window j) 0 0) (get_or (window j) 2 0)) (bit_xor (get_or (window j) 4 0) (get_or (window j) 7 0))
    (xor_bit (get_or (window j) 0 0) (get_or (window j) 2 0) (window_bits j 0) (window_bits j 2))
    (xor_bit (get_or (window j) 4 0) (get_or (window j) 7 0) (window_bits j 4) (window_bits j 7))
window_bits (suc j) (suc i) = ⊎_elim
    (λ (l : i < 7). rw (get_or-take 7 (window j) i 0 l) (window_bits j i))
    (λ (l : 7 ≤ i).
    let short : length (take 7 (window j)) ≤ i = omega (arith, length-take 7 (window j)) in
    rw (get_or-eq_default (take 7 (window j)) 0 short) (omega arith))
    (lt_or_le i 7)

pub sequence_bits : Bits sequence
unfolding sequence
sequence_bits j = window_bits j 7

-- twice is not at all
pub randomize_twice : (f : ℕ → ℕ) (j : ℕ) → randomize (randomize f) j ≡ f j
unfolding randomize
randomize_twice f j = xor_cancel_r (f j) (sequence j)

pub randomize_bits : (f : ℕ → ℕ) → Bits f → Bits (randomize f)
unfolding randomize
randomize_bits f h j = xor_bit (f j) (sequence j) (h j) (sequence_bits j)

pub randomize_same : (f g : ℕ → ℕ) (j : ℕ) → f j ≡ g j → randomize f j ≡ randomize g j
unfolding randomize
randomize_same f g j e = ap (λ (b : ℕ). bit_xor b (sequence j)) e

-- it adds the same to all, so three sums are one, and two differ as before
pub randomize_sum3 : (f g h : ℕ → ℕ) (j : ℕ) → randomize (λ i. sum3 (f i) (g i) (h i)) j ≡ sum3 (randomize f j) (randomize g j) (randomize h j)
unfolding randomize
randomize_sum3 f g h j =
    ap (λ (s : ℕ). bit_xor (sum3 (f j) (g j) (h j)) s) (sym (sum3_self (sequence j)))
    ∙ sym (sum3_cross (f j) (sequence j) (g j) (sequence j) (h j) (sequence j))

pub randomize_differ : (f g : ℕ → ℕ) (j : ℕ) → bit_xor (randomize f j) (randomize g j) ≡ bit_xor (f j) (g j)
unfolding randomize
randomize_differ f g j =
    xor_cross (f j) (sequence j) (g j) (sequence j)
    ∙ ap (bit_xor (bit_xor (f j) (g j))) (xor_self (sequence j))
    ∙ xor_zero_r (bit_xor (f j) (g j))
