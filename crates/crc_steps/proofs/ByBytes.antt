-- The check register, a byte at a time: it shifts up by eight, and what the byte makes of a register of zeros is added.
-- One step is linear, so the register's top byte and the byte itself act as their sum.
use mathlib.Core.Path.{◌≡◌, refl, sym, ap, ap₂, ◌∙◌}
use mathlib.Core.List.{List}
use Prim.Native.Nat.{ℕ, ◌+◌, ◌-◌, ◌*◌, ◌/◌, ◌%◌, ◌^◌, ◌<◌}
use native.Mathlib.Omega.{arith}
use lib.Bits.{bit_xor, xor_zero_r, xor_lt, xor_shifted, xor_comm}
use lib.Dec.{eqb, eqb→eq}
use lib.ListN.{get_or}
use Rattle.bits.proofs.Laws.Sum.{xor_cancel, xor_digit}
use Rattle.bits.proofs.Laws.Table.{below_all}
use Rattle.bits.specs.Pack.{Bits, bit_at}
use Rattle.bits.proofs.Laws.Pack.{bit_lt}
use Rattle.crc.specs.Check.{advance, register}
use Rattle.crc.proofs.Laws.Check.{register_lt}
use Rattle.crc.specs.Inner.{advances}
use Rattle.crc_steps.specs.Inner.{byte_bit, change}
use Rattle.crc.proofs.Laws.Bytes.{advances_same, advances_plus, register_on}

byte_bits : (v : ℕ) → Bits (byte_bit v)
byte_bits v t = omega arith

-- a zero bit shifts a register whose top bit is 0
shift_one : (r : ℕ) → r < 2 ^ 31 → advance r 0 ≡ r * 2
unfolding advance
shift_one r h =
    let top : r / 2 ^ 31 ≡ 0 = omega arith in
    let e : r * 2 % 2 ^ 32 ≡ r * 2 = omega arith in
    rw (top, e) (xor_zero_r (r * 2))

-- and eight of them one whose top byte is 0
shift_eight : (r : ℕ) → r < 2 ^ 24 → advances r (λ _. 0) 8 ≡ r * 2 ^ 8
unfolding advances
shift_eight r h =
    let e₁ : advance r 0 ≡ r * 2 = shift_one r (omega arith) in
    let e₂ : advance (r * 2) 0 ≡ r * 4 = shift_one (r * 2) (omega arith) ∙ omega arith in
    let e₃ : advance (r * 4) 0 ≡ r * 8 = shift_one (r * 4) (omega arith) ∙ omega arith in
    let e₄ : advance (r * 8) 0 ≡ r * 16 = shift_one (r * 8) (omega arith) ∙ omega arith in
    let e₅ : advance (r * 16) 0 ≡ r * 32 = shift_one (r * 16) (omega arith) ∙ omega arith in
    let e₆ : advance (r * 32) 0 ≡ r * 64 = shift_one (r * 32) (omega arith) ∙ omega arith in
    let e₇ : advance (r * 64) 0 ≡ r * 128 = shift_one (r * 64) (omega arith) ∙ omega arith in
    let e₈ : advance (r * 128) 0 ≡ r * 256 = shift_one (r * 128) (omega arith) ∙ omega arith in
    rw (e₁, e₂, e₃, e₄, e₅, e₆, e₇, e₈) refl

-- a top byte that meets its own bits leaves nothing: a test of every byte, which antt computes
meets_itself : (w : ℕ) → w < 256 → advances (w * 2 ^ 24) (byte_bit w) 8 ≡ 0
unfolding advances advance
meets_itself w h =
    eqb→eq (advances (w * 2 ^ 24) (byte_bit w) 8) 0 (below_all 256 (λ v. eqb (advances (v * 2 ^ 24) (byte_bit v) 8) 0) tt w h)

-- so the top byte and the byte act as their sum
top_byte : (w v : ℕ) → w < 256 → advances (w * 2 ^ 24) (byte_bit v) 8 ≡ change (bit_xor w v)
unfolding change
top_byte w v h =
    let s : ℕ = bit_xor w v in
    sym (ap (λ (r : ℕ). advances r (λ t. bit_xor (byte_bit w t) (byte_bit s t)) 8) (xor_zero_r (w * 2 ^ 24))
    ∙ advances_same (w * 2 ^ 24) (λ t. bit_xor (byte_bit w t) (byte_bit s t)) (byte_bit v) 8
    (λ t l. sym (xor_digit w s (7 - t)) ∙ ap (λ (b : ℕ). byte_bit b t) (xor_cancel w v)))
    ∙ advances_plus (w * 2 ^ 24) 0 (byte_bit w) (byte_bit s) (omega arith) (omega arith) (byte_bits w) (byte_bits s) 8
    ∙ ap (λ (r : ℕ). bit_xor r (advances 0 (byte_bit s) 8)) (meets_itself w h)

-- eight steps at once
eight_steps : (r v : ℕ) → r < 2 ^ 32 → advances r (byte_bit v) 8 ≡ bit_xor (r * 2 ^ 8 % 2 ^ 32) (change (bit_xor (r / 2 ^ 24) v))
eight_steps r v h =
    let hi : ℕ = r / 2 ^ 24 in
    let lo : ℕ = r % 2 ^ 24 in
    let small : lo < 2 ^ 24 = omega arith in
    let parts : bit_xor (hi * 2 ^ 24) lo ≡ r = xor_shifted hi 24 lo small ∙ omega arith in
    let shifted : r * 2 ^ 8 % 2 ^ 32 ≡ lo * 2 ^ 8 = omega arith in
    ap (λ (t : ℕ). advances t (byte_bit v) 8) (sym parts)
    ∙ advances_same (bit_xor (hi * 2 ^ 24) lo) (byte_bit v) (λ t. bit_xor (byte_bit v t) 0) 8 (λ t l. sym (xor_zero_r (byte_bit v t)))
    ∙ advances_plus (hi * 2 ^ 24) lo (byte_bit v) (λ _. 0) (omega arith) (omega arith) (byte_bits v) (λ _. omega arith) 8
    ∙ ap₂ bit_xor (top_byte hi v (omega arith)) (shift_eight lo small ∙ sym shifted)
    ∙ xor_comm (change (bit_xor hi v)) (r * 2 ^ 8 % 2 ^ 32)

-- the bits of byte i of a block
block_byte : (xs : List ℕ) (i t : ℕ) → t < 8 → bit_at xs (8 * i + t) ≡ byte_bit (get_or xs i 0) t
unfolding bit_at
block_byte xs i t l =
    let place : (8 * i + t) / 8 ≡ i = omega arith in
    let low : 7 - (8 * i + t) % 8 ≡ 7 - t = omega arith in
    ap₂ (λ (p q : ℕ). get_or xs p 0 / 2 ^ q % 2) place low

-- ---- a loop over the bytes of a block, with the register r after the first i

module _ (xs : List ℕ) (i r : ℕ) (byte : get_or xs i 0 < 256) (so_far : r ≡ register (bit_at xs) (8 * i)) where
  register_fits : r < 2 ^ 32
  register_fits = rw so_far (register_lt (bit_at xs) (bit_lt xs) (8 * i))

  -- what is added to it is a byte's change
  pub byte_lt : bit_xor (r / 2 ^ 24) (get_or xs i 0) < 256
  byte_lt =
      let h : r < 2 ^ 32 = register_fits in
      xor_lt 8 (r / 2 ^ 24) (get_or xs i 0) (omega arith) byte

  -- one byte more
  pub register_byte : bit_xor (r * 2 ^ 8 % 2 ^ 32) (change (bit_xor (r / 2 ^ 24) (get_or xs i 0))) ≡ register (bit_at xs) (8 * (i + 1))
  register_byte =
      let e : 8 * (i + 1) ≡ 8 * i + 8 = omega arith in
      sym (eight_steps r (get_or xs i 0) register_fits)
      ∙ sym (advances_same r (λ t. bit_at xs (8 * i + t)) (byte_bit (get_or xs i 0)) 8 (block_byte xs i))
      ∙ ap (λ (q : ℕ). advances q (λ t. bit_at xs (8 * i + t)) 8) so_far
      ∙ sym (ap (register (bit_at xs)) e ∙ register_on (bit_at xs) (8 * i) 8)
