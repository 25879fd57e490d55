-- A number of 64 bits that is a power of 2 has a single one.
use mathlib.Core.Path.{◌≡◌, sym, ap, ◌∙◌}
use Prim.Native.Nat.{ℕ, ◌+◌, ◌-◌, ◌*◌, ◌/◌, ◌%◌, ◌^◌, ◌≤◌, ◌<◌}
use native.Mathlib.Omega.{arith}
use lib.Dec.{eqb, eqb→eq}
use lib.Pow.{shl_exact, high}
use Rattle.bits.specs.Basics.{bool}
use Rattle.bits.specs.Pack.{val, cut, Bits}
use Rattle.bits.proofs.Laws.Pack.{bit_val, val_lt}
use Rattle.bits.proofs.Laws.Parts.{val_split, val_cut}
use Rattle.bits.proofs.Laws.Table.{all_below, below_all}

-- the bits of a power of 2: a test of all cases, which antt computes
one_bit : (r i : ℕ) → r < 64 → i < 64 → 2 ^ (63 - r) / 2 ^ (63 - i) % 2 ≡ bool (eqb i r)
one_bit r i hr hi =
    eqb→eq (2 ^ (63 - r) / 2 ^ (63 - i) % 2) (bool (eqb i r))
    (below_all 64 (λ i. eqb (2 ^ (63 - r) / 2 ^ (63 - i) % 2) (bool (eqb i r)))
    (below_all 64 (λ r. all_below 64 (λ i. eqb (2 ^ (63 - r) / 2 ^ (63 - i) % 2) (bool (eqb i r)))) tt r hr) i hi)

pub lone_bits : (f : ℕ → ℕ) → Bits f → (r : ℕ) → r < 64 → val f 64 ≡ 2 ^ (63 - r) → (i : ℕ) → i < 64 → f i ≡ bool (eqb i r)
lone_bits f b r hr e i hi =
    sym (bit_val f b (63 - i) i 64 (omega arith)) ∙ ap (λ (n : ℕ). n / 2 ^ (63 - i) % 2) e ∙ one_bit r i hr hi

-- the first g of 64 bits, by a shift down and up
pub kept : (f : ℕ → ℕ) → Bits f → (g : ℕ) → g ≤ 64 → val f 64 / 2 ^ (64 - g) * 2 ^ (64 - g) % 2 ^ 64 ≡ val (cut g f) 64
kept f b g h =
    let d : ℕ = 64 - g in
    let e : 64 ≡ g + d = omega arith in
    let down : val f 64 / 2 ^ d ≡ val f g =
    ap (λ (n : ℕ). val f n / 2 ^ d) e ∙ ap (λ (n : ℕ). n / 2 ^ d) (val_split f g d) ∙ high (val f g) d (val_lt (λ t. f (g + t)) (λ t. b (g + t)) d) in
    let j : g + d ≤ 64 = omega arith in
    ap (λ (n : ℕ). n * 2 ^ d % 2 ^ 64) down ∙ shl_exact g d 64 (val_lt f b g) j ∙ sym (val_cut f g 64 h)
