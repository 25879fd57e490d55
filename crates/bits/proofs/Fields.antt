-- Why two bytes are enough for a field: they hold all its bits, and the code's shifts and masks cut them out.
use mathlib.Core.Path.{◌≡◌, sym, ap, ap₂, ◌∙◌}
use mathlib.Core.List.{List}
use mathlib.Core.Logic.{⊎_elim}
use Prim.Native.Nat.{ℕ, ◌+◌, ◌-◌, ◌*◌, ◌/◌, ◌%◌, ◌^◌, ◌≤◌, ◌<◌}
use native.Mathlib.Omega.{arith}
use native.Mathlib.Nat.{mod-eq_of_lt, one-mul}
use lib.Bits.{bit_or, bit_and, or_shifted, and_mask}
use lib.Pow.{pow_mono, shr-shr, high, low}
use lib.ListN.{get_or}
use Rattle.bits.proofs.Laws.Choice.{lt_or_le}
use Rattle.bits.specs.Pack.{val, bit_at, Bytes}
use Rattle.bits.proofs.Laws.Pack.{val_same}
use Rattle.bits.proofs.Laws.Field.{digit, cut_out}

-- a digit of two bytes joined
first_byte : (a b q : ℕ) → b < 256 → q < 8 → (a * 256 + b) / 2 ^ (15 - q) % 2 ≡ a / 2 ^ (7 - q) % 2
first_byte a b q h l =
    let e : 15 - q ≡ 8 + (7 - q) = omega arith in
    ap (λ (k : ℕ). (a * 256 + b) / 2 ^ k % 2) e
    ∙ ap (λ (v : ℕ). v % 2) (sym (shr-shr (a * 256 + b) 8 (7 - q)))
    ∙ ap (λ (v : ℕ). v / 2 ^ (7 - q) % 2) (high a 8 h)

second_byte : (a b q : ℕ) → b < 256 → 8 ≤ q → q < 16 → (a * 256 + b) / 2 ^ (15 - q) % 2 ≡ b / 2 ^ (15 - q) % 2
second_byte a b q h l g =
    sym (digit (a * 256 + b) 8 (15 - q) (omega arith)) ∙ ap (λ (v : ℕ). v / 2 ^ (15 - q) % 2) (low a 8 h)

-- the byte of the first bit and the byte of the last hold all m; where those are one, the second copy is not looked at
pub two_bytes : (xs : List ℕ) (at m : ℕ) → Bytes xs → 1 ≤ m → m ≤ 8
    → val (λ i. bit_at xs (at + i)) m ≡ (get_or xs (at / 8) 0 * 256 + get_or xs ((at + m - 1) / 8) 0) / 2 ^ (16 - m - at % 8) % 2 ^ m
unfolding bit_at
two_bytes xs at m bytes least most =
    let a : ℕ = get_or xs (at / 8) 0 in
    let b : ℕ = get_or xs ((at + m - 1) / 8) 0 in
    val_same (λ i. bit_at xs (at + i)) (λ i. (a * 256 + b) / 2 ^ (16 - 1 - (at % 8 + i)) % 2) m (λ i l.
    ⊎_elim
    (λ (q : at % 8 + i < 8).
    let d : (at + i) / 8 ≡ at / 8 = omega arith in
    let r : (at + i) % 8 ≡ at % 8 + i = omega arith in
    ap₂ (λ (u v : ℕ). get_or xs u 0 / 2 ^ (7 - v) % 2) d r
    ∙ sym (first_byte a b (at % 8 + i) (bytes ((at + m - 1) / 8)) q))
    (λ (q : 8 ≤ at % 8 + i).
    let d : (at + i) / 8 ≡ (at + m - 1) / 8 = omega arith in
    let r : 7 - (at + i) % 8 ≡ 15 - (at % 8 + i) = omega arith in
    ap₂ (λ (u v : ℕ). get_or xs u 0 / 2 ^ v % 2) d r
    ∙ sym (second_byte a b (at % 8 + i) (bytes ((at + m - 1) / 8)) q (omega arith)))
    (lt_or_le (at % 8 + i) 8))
    ∙ cut_out (a * 256 + b) 16 (at % 8) m (omega arith)

pub one_shifted : (m : ℕ) → m ≤ 8 → 1 * 2 ^ m % 2 ^ 64 ≡ 2 ^ m
one_shifted m h =
    let small : 2 ^ m ≤ 2 ^ 8 = pow_mono h in
    ap (λ (v : ℕ). v % 2 ^ 64) (one-mul (2 ^ m)) ∙ mod-eq_of_lt (omega arith)

-- the same with the code's shifts and masks
pub shifted_out : (xs : List ℕ) (at m : ℕ) → Bytes xs → 1 ≤ m → m ≤ 8
    → bit_and (bit_or (get_or xs (at / 8) 0 * 2 ^ 8 % 2 ^ 64) (get_or xs ((at + m - 1) / 8) 0) / 2 ^ (16 - m - at % 8)) (1 * 2 ^ m % 2 ^ 64 - 1) ≡ val (λ i. bit_at xs (at + i)) m
shifted_out xs at m bytes least most =
    let a : ℕ = get_or xs (at / 8) 0 in
    let b : ℕ = get_or xs ((at + m - 1) / 8) 0 in
    let ha : a < 256 = bytes (at / 8) in
    let wide : a * 2 ^ 8 % 2 ^ 64 ≡ a * 2 ^ 8 = omega arith in
    let join : bit_or (a * 2 ^ 8 % 2 ^ 64) b ≡ a * 256 + b = ap (λ (v : ℕ). bit_or v b) wide ∙ or_shifted a 8 b (bytes ((at + m - 1) / 8)) in
    ap₂ (λ (u v : ℕ). bit_and (u / 2 ^ (16 - m - at % 8)) (v - 1)) join (one_shifted m most)
    ∙ and_mask ((a * 256 + b) / 2 ^ (16 - m - at % 8)) m
    ∙ sym (two_bytes xs at m bytes least most)
