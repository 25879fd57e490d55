-- Sums of bits, modulo 2: `bit_xor`, on single bits and, place by place, on whole numbers. Its laws ask nothing of the numbers.
use mathlib.Core.Path.{◌≡◌, refl, sym, ap, ap₂, ◌∙◌}
use Prim.Native.Nat.{ℕ, ◌+◌, ◌*◌, ◌/◌, ◌%◌, ◌^◌, ◌≤◌, ◌<◌}
use native.Mathlib.Omega.{arith}
use mathlib.Core.Logic.{⊎_elim}
use lib.Arith.{bin_ind}
use lib.Bits.{bit_xor, bit_or, differ, xor_step, xor_zero_l, xor_zero_r, xor_comm, xor_self, xor_lt, xor_shr, xor_mod, or_add_and, and_le_l, and_le_r}
use Rattle.bits.proofs.Laws.Choice.{lt_or_le, bit_cases}

-- the sum of two digits, three ways
differ_assoc : (a b c : ℕ) → a < 2 → b < 2 → c < 2 → differ (differ a b) c ≡ differ a (differ b c)
differ_assoc a b c ha hb hc =
    ⊎_elim
    (λ (ea : a ≡ 0). rw (ea) refl)
    (λ (ea : a ≡ 1). ⊎_elim
    (λ (eb : b ≡ 0). rw (ea, eb) refl)
    (λ (eb : b ≡ 1). ⊎_elim (λ (ec : c ≡ 0). rw (ea, eb, ec) refl) (λ (ec : c ≡ 1). rw (ea, eb, ec) refl) (bit_cases c hc))
    (bit_cases b hb))
    (bit_cases a ha)

xor_digits : (a b : ℕ) → a < 2 → b < 2 → bit_xor a b ≡ differ a b
xor_digits a b ha hb =
    ⊎_elim (λ (ea : a ≡ 0). rw ea refl)
    (λ (ea : a ≡ 1). ⊎_elim (λ (eb : b ≡ 0). rw (ea, eb) refl) (λ (eb : b ≡ 1). rw (ea, eb) refl) (bit_cases b hb))
    (bit_cases a ha)

low_digit : (a b : ℕ) → bit_xor a b % 2 ≡ differ (a % 2) (b % 2)
low_digit a b = xor_mod a b 1 ∙ xor_digits (a % 2) (b % 2) (omega arith) (omega arith)

pub xor_assoc : (a b c : ℕ) → bit_xor (bit_xor a b) c ≡ bit_xor a (bit_xor b c)
xor_assoc a =
    bin_ind (λ (n : ℕ). (b c : ℕ) → bit_xor (bit_xor n b) c ≡ bit_xor n (bit_xor b c))
    (λ b c. refl)
    (λ n ih b c.
    xor_step (bit_xor n b) c
    ∙ ap₂ (λ (h d : ℕ). h * 2 + d)
    (ap (λ (x : ℕ). bit_xor x (c / 2)) (xor_shr n b 1) ∙ ih (b / 2) (c / 2) ∙ ap (λ (x : ℕ). bit_xor (n / 2) x) (sym (xor_shr b c 1)))
    (ap (λ (x : ℕ). differ x (c % 2)) (low_digit n b)
    ∙ differ_assoc (n % 2) (b % 2) (c % 2) (omega arith) (omega arith) (omega arith)
    ∙ ap (λ (x : ℕ). differ (n % 2) x) (sym (low_digit b c)))
    ∙ sym (xor_step n (bit_xor b c)))
    a

-- what is added twice is gone
pub xor_cancel : (a b : ℕ) → bit_xor a (bit_xor a b) ≡ b
xor_cancel a b = sym (xor_assoc a a b) ∙ ap (λ (x : ℕ). bit_xor x b) (xor_self a) ∙ xor_zero_l b

pub xor_cancel_r : (a b : ℕ) → bit_xor (bit_xor a b) b ≡ a
xor_cancel_r a b = xor_assoc a b b ∙ ap (λ (x : ℕ). bit_xor a x) (xor_self b) ∙ xor_zero_r a

-- the pairs of a sum of two sums may be taken crosswise
pub xor_cross : (a b c d : ℕ) → bit_xor (bit_xor a b) (bit_xor c d) ≡ bit_xor (bit_xor a c) (bit_xor b d)
xor_cross a b c d =
    xor_assoc a b (bit_xor c d)
    ∙ ap (λ (x : ℕ). bit_xor a x) (sym (xor_assoc b c d) ∙ ap (λ (x : ℕ). bit_xor x d) (xor_comm b c) ∙ xor_assoc c b d)
    ∙ sym (xor_assoc a c (bit_xor b d))

pub xor_bit : (a b : ℕ) → a < 2 → b < 2 → bit_xor a b < 2
xor_bit a b ha hb = xor_lt 1 a b ha hb

-- equal bits are those whose sum is 0
pub xor_same : (a b : ℕ) → a ≡ b → bit_xor a b ≡ 0
xor_same a b e = ap (λ (x : ℕ). bit_xor x b) e ∙ xor_self b

pub same_xor : (a b : ℕ) → bit_xor a b ≡ 0 → a ≡ b
same_xor a b e = sym (xor_cancel_r a b) ∙ ap (λ (x : ℕ). bit_xor x b) e ∙ xor_zero_l b

-- the sum of three, which demand 3 speaks of
abbrev pub sum3 : ℕ → ℕ → ℕ → ℕ
sum3 a b c = bit_xor (bit_xor a b) c

pub sum3_cross : (a b c d e f : ℕ) → sum3 (bit_xor a b) (bit_xor c d) (bit_xor e f) ≡ bit_xor (sum3 a c e) (sum3 b d f)
sum3_cross a b c d e f = ap (λ (x : ℕ). bit_xor x (bit_xor e f)) (xor_cross a b c d) ∙ xor_cross (bit_xor a c) (bit_xor b d) e f

-- a thing three times is the thing
pub sum3_self : (a : ℕ) → sum3 a a a ≡ a
sum3_self a = xor_cancel_r a a

-- a bit of a sum is the sum of the bits
pub xor_digit : (a b k : ℕ) → bit_xor a b / 2 ^ k % 2 ≡ bit_xor (a / 2 ^ k % 2) (b / 2 ^ k % 2)
xor_digit a b k = ap (λ (x : ℕ). x % 2) (xor_shr a b k) ∙ xor_mod (a / 2 ^ k) (b / 2 ^ k) 1

-- `bit_or` is 0 only of zeros
pub or_zero : (a b : ℕ) → bit_or a b ≡ 0 → (a ≡ 0) × (b ≡ 0)
or_zero a b e = omega (arith, or_add_and a b, and_le_l a b, and_le_r a b)

-- differences joined by it: none so far, and none at n
pub same_more : (f g : ℕ → ℕ) (n d : ℕ) → (d ≡ 0 → (k : ℕ) → k < n → f k ≡ g k) → bit_or d (bit_xor (f n) (g n)) ≡ 0 → (k : ℕ) → k < n + 1 → f k ≡ g k
same_more f g n d before e k l =
    let z = or_zero d (bit_xor (f n) (g n)) e in
    ⊎_elim
    (λ (h : k < n). before z.0 k h)
    (λ (h : n ≤ k). let q : k ≡ n = omega arith in rw q (same_xor (f n) (g n) z.1))
    (lt_or_le k n)
