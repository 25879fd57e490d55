-- What the loops of `packing` keep.
use mathlib.Core.Path.{◌≡◌, sym, ap, ◌∙◌}
use Prim.Native.Nat.{ℕ, ◌+◌, ◌*◌, ◌%◌, ◌^◌, ◌≤◌, ◌<◌}
use native.Mathlib.Omega.{arith}
use native.Mathlib.Numerals.{add-one}
use native.Mathlib.Nat.{mod-eq_of_lt}
use lib.Bits.{bit_and, bit_or, and_mask, or_shifted}
use lib.Pow.{shl_exact}
use Rattle.bits.specs.Pack.{val, Bits}
use Rattle.bits.proofs.Laws.Pack.{val_lt}

-- one bit more of a number: `v << 1 | b` on w bits
pub push : (w : ℕ) (f : ℕ → ℕ) (n : ℕ) → Bits f → n < w → bit_or (val f n * 2 ^ 1 % 2 ^ w) (f n) ≡ val f (n + 1)
unfolding val
push w f n b h =
    let room : n + 1 ≤ w = omega arith in
    ap (λ (v : ℕ). bit_or v (f n)) (shl_exact n 1 w (val_lt f b n) room) ∙ or_shifted (val f n) 1 (f n) (b n) ∙ ap (val f) (sym (add-one n))

-- eight bits make a byte: `v & 255`
pub byte_mask : (f : ℕ → ℕ) → Bits f → bit_and (val f 8) 255 ≡ val f 8
byte_mask f b = and_mask (val f 8) 8 ∙ mod-eq_of_lt (val_lt f b 8)
