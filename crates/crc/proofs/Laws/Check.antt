-- Step 2: the register stays below 2^32, adds, and follows the block.
use mathlib.Core.Path.{◌≡◌, refl, sym, ap, ap₂, ◌∙◌}
use mathlib.Core.Logic.{⊎_elim}
use Prim.Native.Nat.{ℕ, zero, suc, ◌+◌, ◌-◌, ◌*◌, ◌/◌, ◌%◌, ◌^◌, ◌≤◌, ◌<◌}
use native.Mathlib.Omega.{arith}
use lib.Bits.{bit_xor, xor_lt, xor_shr, xor_mod, xor_block}
use borrow.Author.Tests.{lt-ltb, le-ltb}
use Rattle.bits.proofs.Laws.Choice.{bit_cases, lt_or_le}
use Rattle.bits.proofs.Laws.Sum.{xor_cross, xor_bit, xor_digit, sum3, sum3_self}
use Rattle.bits.specs.Pack.{Bits, val}
use Rattle.crc.specs.Check.{polynomial, advance, register, check_bit, checked}

-- the single bit 1, and its check field FFFFFFFE after it: all ones, and then the 0
pub check_example : val (checked 1 (λ i. 1)) 33 ≡ 0x1FFFFFFFE
unfolding checked check_bit register advance val
check_example = refl

-- ---- laws

top_lt : (r : ℕ) → r < 2 ^ 32 → r / 2 ^ 31 < 2
top_lt r h = omega arith

feed_lt : (f : ℕ) → f < 2 → f * polynomial < 2 ^ 32
feed_lt f h = omega arith

pub advance_lt : (r b : ℕ) → r < 2 ^ 32 → b < 2 → advance r b < 2 ^ 32
unfolding advance
advance_lt r b hr hb =
    let f : bit_xor (r / 2 ^ 31) b < 2 = xor_bit (r / 2 ^ 31) b (top_lt r hr) hb in
    xor_lt 32 (r * 2 % 2 ^ 32) (bit_xor (r / 2 ^ 31) b * polynomial) (omega arith) (feed_lt (bit_xor (r / 2 ^ 31) b) f)

pub register_lt : (x : ℕ → ℕ) → Bits x → (n : ℕ) → register x n < 2 ^ 32
unfolding register
register_lt x h zero = omega arith
register_lt x h (suc n) = advance_lt (register x n) (x n) (register_lt x h n) (h n)

pub register_same : (x y : ℕ → ℕ) (n : ℕ) → ((i : ℕ) → i < n → x i ≡ y i) → register x n ≡ register y n
unfolding register
register_same x y zero h = refl
register_same x y (suc n) h = ap₂ advance (register_same x y n (λ i l. h i (omega arith))) (h n (omega arith))

-- one step is linear in register and bit together
double_plus : (a b : ℕ) → bit_xor a b * 2 % 2 ^ 32 ≡ bit_xor (a * 2 % 2 ^ 32) (b * 2 % 2 ^ 32)
double_plus a b =
    let ea : a * 2 ≡ a * 2 ^ 1 + 0 = omega arith in
    let eb : b * 2 ≡ b * 2 ^ 1 + 0 = omega arith in
    let e : bit_xor (a * 2) (b * 2) ≡ bit_xor a b * 2 =
    ap₂ bit_xor ea eb ∙ xor_block 1 a b 0 0 (omega arith) (omega arith) ∙ omega arith in
    ap (λ (v : ℕ). v % 2 ^ 32) (sym e) ∙ xor_mod (a * 2) (b * 2) 32

feed_plus : (f g : ℕ) → f < 2 → g < 2 → bit_xor f g * polynomial ≡ bit_xor (f * polynomial) (g * polynomial)
feed_plus f g hf hg =
    ⊎_elim
    (λ (e : f ≡ 0). rw e refl)
    (λ (e : f ≡ 1). ⊎_elim (λ (d : g ≡ 0). rw (e, d) refl) (λ (d : g ≡ 1). rw (e, d) refl) (bit_cases g hg))
    (bit_cases f hf)

pub advance_plus : (r s b c : ℕ) → r < 2 ^ 32 → s < 2 ^ 32 → b < 2 → c < 2 → advance (bit_xor r s) (bit_xor b c) ≡ bit_xor (advance r b) (advance s c)
unfolding advance
advance_plus r s b c hr hs hb hc =
    let f : ℕ = bit_xor (r / 2 ^ 31) b in
    let g : ℕ = bit_xor (s / 2 ^ 31) c in
    let hf : f < 2 = xor_bit (r / 2 ^ 31) b (top_lt r hr) hb in
    let hg : g < 2 = xor_bit (s / 2 ^ 31) c (top_lt s hs) hc in
    let e : bit_xor (bit_xor r s / 2 ^ 31) (bit_xor b c) ≡ bit_xor f g =
    ap (λ (t : ℕ). bit_xor t (bit_xor b c)) (xor_shr r s 31) ∙ xor_cross (r / 2 ^ 31) (s / 2 ^ 31) b c in
    ap₂ bit_xor (double_plus r s) (ap (λ (t : ℕ). t * polynomial) e ∙ feed_plus f g hf hg)
    ∙ xor_cross (r * 2 % 2 ^ 32) (s * 2 % 2 ^ 32) (f * polynomial) (g * polynomial)

-- so the register of the sum of three is the sum of the three registers: the start, three times, is the start
pub register_sum3 : (x y z : ℕ → ℕ) → Bits x → Bits y → Bits z → (n : ℕ)
    → register (λ i. sum3 (x i) (y i) (z i)) n ≡ sum3 (register x n) (register y n) (register z n)
unfolding register
register_sum3 x y z hx hy hz zero = sym (sum3_self 0xFFFFFFFF)
register_sum3 x y z hx hy hz (suc n) =
    let rx : register x n < 2 ^ 32 = register_lt x hx n in
    let ry : register y n < 2 ^ 32 = register_lt y hy n in
    let rz : register z n < 2 ^ 32 = register_lt z hz n in
    ap (λ (r : ℕ). advance r (sum3 (x n) (y n) (z n))) (register_sum3 x y z hx hy hz n)
    ∙ advance_plus (bit_xor (register x n) (register y n)) (register z n) (bit_xor (x n) (y n)) (z n)
    (xor_lt 32 (register x n) (register y n) rx ry) rz (xor_bit (x n) (y n) (hx n) (hy n)) (hz n)
    ∙ ap (λ (r : ℕ). bit_xor r (advance (register z n) (z n)))
    (advance_plus (register x n) (register y n) (x n) (y n) rx ry (hx n) (hy n))

pub checked_block_lem : (k : ℕ) (x : ℕ → ℕ) (i : ℕ) → i < k → checked k x i ≡ x i
unfolding checked
checked_block_lem k x i h = rw (lt-ltb i k h) refl

pub checked_check : (k : ℕ) (x : ℕ → ℕ) (i : ℕ) → k ≤ i → checked k x i ≡ check_bit (register x k) (i - k)
unfolding checked
checked_check k x i h = rw (le-ltb i k h) refl

pub check_bit_lem : (r : ℕ) → Bits (check_bit r)
unfolding check_bit
check_bit_lem r i = omega arith

pub checked_bits : (k : ℕ) (x : ℕ → ℕ) → Bits x → Bits (checked k x)
checked_bits k x h i =
    ⊎_elim
    (λ (l : i < k). rw (checked_block_lem k x i l) (h i))
    (λ (l : k ≤ i). rw (checked_check k x i l) (check_bit_lem (register x k) (i - k)))
    (lt_or_le i k)

-- the check field depends on the k bits alone
pub checked_same : (k : ℕ) (x y : ℕ → ℕ) → ((i : ℕ) → i < k → x i ≡ y i) → (i : ℕ) → checked k x i ≡ checked k y i
checked_same k x y h i =
    ⊎_elim
    (λ (l : i < k). checked_block_lem k x i l ∙ h i l ∙ sym (checked_block_lem k y i l))
    (λ (l : k ≤ i). checked_check k x i l ∙ ap (λ (r : ℕ). check_bit r (i - k)) (register_same x y k h) ∙ sym (checked_check k y i l))
    (lt_or_le i k)

pub check_plus : (r s i : ℕ) → check_bit (bit_xor r s) i ≡ bit_xor (check_bit r i) (check_bit s i)
unfolding check_bit
check_plus r s i = xor_digit r s (31 - i)

pub checked_sum3 : (k : ℕ) (x y z : ℕ → ℕ) → Bits x → Bits y → Bits z → (i : ℕ)
    → checked k (λ i. sum3 (x i) (y i) (z i)) i ≡ sum3 (checked k x i) (checked k y i) (checked k z i)
checked_sum3 k x y z hx hy hz i =
    ⊎_elim
    (λ (l : i < k).
    checked_block_lem k (λ i. sum3 (x i) (y i) (z i)) i l
    ∙ sym (rw (checked_block_lem k x i l, checked_block_lem k y i l, checked_block_lem k z i l) refl))
    (λ (l : k ≤ i).
    checked_check k (λ i. sum3 (x i) (y i) (z i)) i l
    ∙ ap (λ (r : ℕ). check_bit r (i - k)) (register_sum3 x y z hx hy hz k)
    ∙ check_plus (bit_xor (register x k) (register y k)) (register z k) (i - k)
    ∙ ap (λ (b : ℕ). bit_xor b (check_bit (register z k) (i - k))) (check_plus (register x k) (register y k) (i - k))
    ∙ sym (rw (checked_check k x i l, checked_check k y i l, checked_check k z i l) refl))
    (lt_or_le i k)
