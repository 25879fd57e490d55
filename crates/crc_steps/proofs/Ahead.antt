-- The check register, 64 bits at a time: it acts as if it were added to the first 32 bits that come, so it may be one of zeros.
use mathlib.Core.Path.{◌≡◌, sym, ap, ap₂, ◌∙◌}
use mathlib.Core.List.{List}
use Prim.Native.Nat.{ℕ, ◌+◌, ◌-◌, ◌*◌, ◌/◌, ◌%◌, ◌^◌, ◌≤◌, ◌<◌}
use native.Mathlib.Omega.{arith}
use lib.Bits.{bit_xor, xor_zero_l, xor_self}
use Rattle.bits.proofs.Laws.Sum.{xor_digit}
use Rattle.bits.specs.Pack.{Bits, val, bit_at, bit_of}
use Rattle.bits.proofs.Laws.Pack.{bit_lt, bit_of_lt, bit_val}
use Rattle.bits.proofs.Laws.Field.{shifted_digit, shifted_below}
use Rattle.crc.specs.Check.{register, check_bit}
use Rattle.crc.proofs.Laws.Check.{register_lt}
use Rattle.crc.specs.Inner.{advances}
use Rattle.crc.proofs.Laws.Bytes.{advances_same, advances_plus, advances_on, register_on}
use Rattle.crc.proofs.Laws.Found.{zeros_stay, field_meets}

-- the bits of a register in front of zeros
ahead : ℕ → ℕ → ℕ
ahead r = bit_of (r * 2 ^ 32)

ahead_first : (r t : ℕ) → t < 32 → ahead r t ≡ check_bit r t
unfolding ahead check_bit
ahead_first r t h =
    let d : 63 - t - 32 ≡ 31 - t = omega arith in
    shifted_digit r 32 (63 - t) (omega arith) ∙ ap (λ (k : ℕ). r / 2 ^ k % 2) d

ahead_rest : (r t : ℕ) → 32 ≤ t → t < 64 → ahead r t ≡ 0
unfolding ahead
ahead_rest r t h l = shifted_below r 32 (63 - t) (omega arith)

-- they take it to zeros
ahead_meets : (r : ℕ) → r < 2 ^ 32 → advances r (ahead r) 64 ≡ 0
ahead_meets r h =
    advances_on r (ahead r) 32 32
    ∙ ap (λ (s : ℕ). advances s (λ i. ahead r (32 + i)) 32) (advances_same r (ahead r) (check_bit r) 32 (ahead_first r) ∙ field_meets r h)
    ∙ zeros_stay (λ i. ahead r (32 + i)) 32 (λ i l. ahead_rest r (32 + i) (omega arith) (omega arith))

-- so it acts as if it were added to the first bits that come
comes_ahead : (r : ℕ) (x : ℕ → ℕ) → r < 2 ^ 32 → Bits x → advances r x 64 ≡ advances 0 (λ t. bit_xor (ahead r t) (x t)) 64
unfolding ahead
comes_ahead r x hr hx =
    sym (xor_zero_l (advances r x 64))
    ∙ ap (λ (s : ℕ). bit_xor s (advances r x 64)) (sym (ahead_meets r hr))
    ∙ sym (advances_plus r r (ahead r) x hr hr (bit_of_lt (r * 2 ^ 32)) hx 64)
    ∙ ap (λ (s : ℕ). advances s (λ t. bit_xor (ahead r t) (x t)) 64) (xor_self r)

-- eight bytes more
pub register_eight : (xs : List ℕ) (j r : ℕ) → r ≡ register (bit_at xs) (64 * j)
    → advances 0 (bit_of (bit_xor (r * 2 ^ 32 % 2 ^ 64) (val (λ t. bit_at xs (8 * (8 * j) + t)) 64))) 64 ≡ register (bit_at xs) (64 * (j + 1))
unfolding ahead
register_eight xs j r so_far =
    let at : 64 * j ≡ 8 * (8 * j) = omega arith in
    let on : 64 * (j + 1) ≡ 8 * (8 * j) + 64 = omega arith in
    let x : ℕ → ℕ = λ t. bit_at xs (8 * (8 * j) + t) in
    let hx : Bits x = λ t. bit_lt xs (8 * (8 * j) + t) in
    let here : r ≡ register (bit_at xs) (8 * (8 * j)) = so_far ∙ ap (register (bit_at xs)) at in
    let fits : r < 2 ^ 32 = rw here (register_lt (bit_at xs) (bit_lt xs) (8 * (8 * j))) in
    let shifted : r * 2 ^ 32 % 2 ^ 64 ≡ r * 2 ^ 32 = omega arith in
    advances_same 0 (bit_of (bit_xor (r * 2 ^ 32 % 2 ^ 64) (val x 64))) (λ t. bit_xor (ahead r t) (x t)) 64 (λ t l.
    xor_digit (r * 2 ^ 32 % 2 ^ 64) (val x 64) (63 - t)
    ∙ ap₂ (λ (a b : ℕ). bit_xor (bit_of a t) b) shifted (bit_val x hx (63 - t) t 64 (omega arith)))
    ∙ sym (comes_ahead r x fits hx)
    ∙ ap (λ (q : ℕ). advances q x 64) here
    ∙ sym (ap (register (bit_at xs)) on ∙ register_on (bit_at xs) (8 * (8 * j)) 64)
