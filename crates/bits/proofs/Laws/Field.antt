-- Digits of a number that was masked or shifted, and some of them cut out as a number.
use mathlib.Core.Path.{◌≡◌, sym, ap, ◌∙◌}
use Prim.Native.Nat.{ℕ, suc, ◌+◌, ◌-◌, ◌*◌, ◌/◌, ◌%◌, ◌^◌, ◌≤◌, ◌<◌}
use native.Mathlib.Omega.{arith}
use native.Mathlib.Nat.{mod-lt, mul_assoc}
use lib.Bits.{shifted_even}
use lib.Pow.{pow_pos, pow-add, field, mod-mod-pow, shl-shr, shr-shr}
use Rattle.bits.specs.Pack.{val}
use Rattle.bits.proofs.Laws.Pack.{val_same, val_bits}

-- a low digit is not touched by a mask above it
pub digit : (x m k : ℕ) → k < m → x % 2 ^ m / 2 ^ k % 2 ≡ x / 2 ^ k % 2
digit x m k h =
    let e : m ≡ m - k - 1 + 1 + k = omega arith in
    ap (λ (j : ℕ). x % 2 ^ j / 2 ^ k % 2) e
    ∙ ap (λ (v : ℕ). v % 2) (field x (m - k - 1 + 1) k)
    ∙ mod-mod-pow (x / 2 ^ k) (m - k - 1) 1

-- the digits of a number that was shifted up by e
pub shifted_digit : (x e k : ℕ) → e ≤ k → x * 2 ^ e / 2 ^ k % 2 ≡ x / 2 ^ (k - e) % 2
shifted_digit x e k h =
    let d : k ≡ e + (k - e) = omega arith in
    ap (λ (j : ℕ). x * 2 ^ e / 2 ^ j % 2) d
    ∙ ap (λ (v : ℕ). v % 2) (sym (shr-shr (x * 2 ^ e) e (k - e)) ∙ ap (λ (v : ℕ). v / 2 ^ (k - e)) (shl-shr x e))

pub shifted_below : (x e k : ℕ) → k < e → x * 2 ^ e / 2 ^ k % 2 ≡ 0
shifted_below x e k h =
    let d : e ≡ suc (e - 1 - k) + k = omega arith in
    ap (λ (p : ℕ). x * p / 2 ^ k % 2) (ap (λ (j : ℕ). 2 ^ j) d ∙ pow-add 2 (suc (e - 1 - k)) k)
    ∙ ap (λ (v : ℕ). v / 2 ^ k % 2) (sym (mul_assoc x (2 ^ suc (e - 1 - k)) (2 ^ k)))
    ∙ ap (λ (v : ℕ). v % 2) (shl-shr (x * 2 ^ suc (e - 1 - k)) k)
    ∙ shifted_even x (e - 1 - k)

-- m of the n digits of x, from digit r on
pub cut_out : (x n r m : ℕ) → r + m ≤ n → val (λ i. x / 2 ^ (n - 1 - (r + i)) % 2) m ≡ x / 2 ^ (n - m - r) % 2 ^ m
cut_out x n r m h =
    let y : ℕ = x / 2 ^ (n - m - r) in
    val_same (λ i. x / 2 ^ (n - 1 - (r + i)) % 2) (λ i. y % 2 ^ m / 2 ^ (m - 1 - i) % 2) m (λ i l.
    let e : n - 1 - (r + i) ≡ n - m - r + (m - 1 - i) = omega arith in
    ap (λ (k : ℕ). x / 2 ^ k % 2) e
    ∙ ap (λ (v : ℕ). v % 2) (sym (shr-shr x (n - m - r) (m - 1 - i)))
    ∙ sym (digit y m (m - 1 - i) (omega arith)))
    ∙ val_bits (y % 2 ^ m) m (mod-lt y (pow_pos m))
