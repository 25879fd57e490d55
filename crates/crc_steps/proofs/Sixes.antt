-- Why tables of six bits do: what bits make of a register of zeros is the sum of what each six of them and the zeros after them make of it.
use mathlib.Core.Path.{◌≡◌, refl, sym, ap, ◌∙◌}
use Prim.Native.Nat.{ℕ, zero, suc, ◌+◌, ◌-◌, ◌*◌, ◌/◌, ◌%◌, ◌^◌, ◌<◌}
use native.Mathlib.Omega.{arith}
use native.Mathlib.Nat.{div-eq_of_lt, zero-div}
use lib.Bits.{bit_xor, xor_zero_r}
use lib.Pow.{shr-shr}
use Rattle.bits.specs.Pack.{Bits}
use Rattle.bits.proofs.Laws.Field.{digit}
use Rattle.bits.specs.Count.{xor_sum}
use Rattle.crc.specs.Inner.{advances}
use Rattle.crc_steps.specs.Inner.{change, none, six_bits, change_of}
use Rattle.crc.proofs.Laws.Bytes.{advances_lt, advances_same, advances_plus, advances_on}
use Rattle.crc.proofs.Laws.Found.{zeros_stay}

-- the six bits from bit 6 k on, counted from below
abbrev pub six_at : ℕ → ℕ → ℕ
six_at v k = v / 2 ^ (6 * k) % 64

-- the lowest n bits, the highest of them first
abbrev pub low_bits : ℕ → ℕ → ℕ → ℕ
low_bits v n t = v / 2 ^ (n - 1 - t) % 2

low_bits_lem : (v n : ℕ) → Bits (low_bits v n)
low_bits_lem v n t = omega arith

six_lt : (n : ℕ) → six_bits n < 2 ^ 32
six_lt n = advances_lt 0 (λ t. n / 2 ^ (5 - t) % 2) (omega arith) (λ t. omega arith) 6

-- six bits in front of the lowest 6 m
six_more : (v m : ℕ) → advances 0 (low_bits v (6 * suc m)) (6 * suc m) ≡ bit_xor (advances 0 (low_bits v (6 * m)) (6 * m)) (change_of m (six_at v m))
unfolding change_of
six_more v m =
    let n : ℕ = 6 * m in
    let f : ℕ → ℕ = low_bits v (6 * suc m) in
    let h : ℕ = six_at v m in
    let e : 6 * suc m ≡ 6 + n = omega arith in
    let first : (t : ℕ) → t < 6 → f t ≡ h / 2 ^ (5 - t) % 2 = λ t l.
    let d : 6 * suc m - 1 - t ≡ n + (5 - t) = omega arith in
    ap (λ (k : ℕ). v / 2 ^ k % 2) d ∙ ap (λ (x : ℕ). x % 2) (sym (shr-shr v n (5 - t))) ∙ sym (digit (v / 2 ^ n) 6 (5 - t) (omega arith)) in
    let rest : (u : ℕ) → u < n → f (6 + u) ≡ bit_xor (low_bits v n u) (none u) = λ u l.
    let d : 6 * suc m - 1 - (6 + u) ≡ n - 1 - u = omega arith in
    ap (λ (k : ℕ). v / 2 ^ k % 2) d ∙ sym (xor_zero_r (low_bits v n u)) in
    ap (advances 0 f) e
    ∙ advances_on 0 f 6 n
    ∙ ap (λ (r : ℕ). advances r (λ u. f (6 + u)) n) (advances_same 0 f (λ t. h / 2 ^ (5 - t) % 2) 6 first)
    ∙ advances_same (six_bits h) (λ u. f (6 + u)) (λ u. bit_xor (low_bits v n u) (none u)) n rest
    ∙ advances_plus 0 (six_bits h) (low_bits v n) none (omega arith) (six_lt h) (low_bits_lem v n) (λ u. omega arith) n

-- the sum over the lowest m sixes is what their bits make of a register of zeros
pub sixes : (v m : ℕ) → xor_sum (λ k. change_of k (six_at v k)) m ≡ advances 0 (low_bits v (6 * m)) (6 * m)
unfolding xor_sum advances
sixes v zero = refl
sixes v (suc m) = ap (λ (s : ℕ). bit_xor s (change_of m (six_at v m))) (sixes v m) ∙ sym (six_more v m)

-- zeros in front of a number's bits change nothing
zeros_ahead : (v m n : ℕ) → v < 2 ^ n → advances 0 (low_bits v (m + n)) (m + n) ≡ advances 0 (low_bits v n) n
zeros_ahead v m n h =
    let f : ℕ → ℕ = low_bits v (m + n) in
    advances_on 0 f m n
    ∙ ap (λ (r : ℕ). advances r (λ u. f (m + u)) n) (zeros_stay f m (λ t l.
    let d : m + n - 1 - t ≡ n + (m - 1 - t) = omega arith in
    ap (λ (k : ℕ). v / 2 ^ k % 2) d
    ∙ ap (λ (x : ℕ). x % 2) (sym (shr-shr v n (m - 1 - t)))
    ∙ ap (λ (x : ℕ). x / 2 ^ (m - 1 - t) % 2) (div-eq_of_lt h)
    ∙ ap (λ (x : ℕ). x % 2) (zero-div (2 ^ (m - 1 - t)))))
    ∙ advances_same 0 (λ u. f (m + u)) (low_bits v n) n (λ u l. let d : m + n - 1 - (m + u) ≡ n - 1 - u = omega arith in ap (λ (k : ℕ). v / 2 ^ k % 2) d)

-- 64 bits: eleven sixes
pub eleven_sixes : (v : ℕ) → v < 2 ^ 64 → xor_sum (λ k. change_of k (six_at v k)) 11 ≡ advances 0 (low_bits v 64) 64
eleven_sixes v h = sixes v 11 ∙ zeros_ahead v 2 64 h

-- a byte: two sixes
pub two_sixes : (b : ℕ) → b < 256 → bit_xor (change_of 0 (b % 64)) (change_of 1 (b / 64 % 64)) ≡ change b
unfolding change xor_sum
two_sixes b h =
    let e : b / 1 % 64 ≡ b % 64 = omega arith in
    ap (λ (n : ℕ). bit_xor (change_of 0 n) (change_of 1 (six_at b 1))) (sym e) ∙ sixes b 2 ∙ zeros_ahead b 4 8 h
