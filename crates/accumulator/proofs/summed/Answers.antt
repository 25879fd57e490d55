-- The first eight of the 64 outputs, whose inputs are the byte's bits.
use mathlib.Core.Path.{◌≡◌, ap, ap₂, ◌∙◌}
use Prim.Native.Nat.{ℕ, zero, suc, ◌+◌, ◌*◌, ◌/◌, ◌%◌, ◌^◌, ◌≤◌, ◌<◌}
use native.Mathlib.Omega.{arith}
use lib.Bits.{bit_xor}
use Rattle.bits.specs.Pack as packed
use Rattle.bits.specs.Pack.{val, Bits}
use Rattle.bits.proofs.Laws.Sum.{xor_bit}
use Rattle.bits.proofs.Laws.Pack.{val_lt, val_same, bit_of_lt}
use Rattle.bits.proofs.Laws.Parts.{val_split}
use Rattle.accumulator.specs.Inner.{bit_of, accumulate_from}
use Rattle.accumulator.proofs.summed.Goals as goal

sums_bits : (last : ℕ) (f : ℕ → ℕ) → last < 2 → Bits f → Bits (accumulate_from last f)
unfolding accumulate_from
sums_bits last f l b zero = xor_bit (f 0) last (b 0) l
sums_bits last f l b (suc j) = xor_bit (f (suc j)) (accumulate_from last f j) (b (suc j)) (sums_bits last f l b j)

sums_same : (last : ℕ) (f g : ℕ → ℕ) (j : ℕ) → ((i : ℕ) → i ≤ j → f i ≡ g i) → accumulate_from last f j ≡ accumulate_from last g j
unfolding accumulate_from
sums_same last f g zero e = ap (λ (v : ℕ). bit_xor v last) (e 0 (omega arith))
sums_same last f g (suc j) e = ap₂ bit_xor (e (suc j) (omega arith)) (sums_same last f g j (λ i l. e i (omega arith)))

first_bit : (b i : ℕ) → i < 8 → packed.bit_of (b * 2 ^ 56) i ≡ bit_of b i
first_bit b zero l = omega arith
first_bit b (suc zero) l = omega arith
first_bit b (suc (suc zero)) l = omega arith
first_bit b (suc (suc (suc zero))) l = omega arith
first_bit b (suc (suc (suc (suc zero)))) l = omega arith
first_bit b (suc (suc (suc (suc (suc zero))))) l = omega arith
first_bit b (suc (suc (suc (suc (suc (suc zero)))))) l = omega arith
first_bit b (suc (suc (suc (suc (suc (suc (suc zero))))))) l = omega arith
first_bit b (suc (suc (suc (suc (suc (suc (suc (suc i)))))))) l = absurd (omega arith)

first_eight : (b last v : ℕ) → b < 256 → last < 2 → v ≡ val (accumulate_from last (packed.bit_of (b * 2 ^ 56))) 64 → v / 2 ^ 56 ≡ val (accumulate_from last (bit_of b)) 8
first_eight b last v h l e =
    let f : ℕ → ℕ = accumulate_from last (packed.bit_of (b * 2 ^ 56)) in
    let bits : Bits f = sums_bits last (packed.bit_of (b * 2 ^ 56)) l (bit_of_lt (b * 2 ^ 56)) in
    let parts : val f 64 ≡ val f 8 * 2 ^ 56 + val (λ t. f (8 + t)) 56 = val_split f 8 56 in
    let low : val (λ t. f (8 + t)) 56 < 2 ^ 56 = val_lt (λ t. f (8 + t)) (λ t. bits (8 + t)) 56 in
    let front : v / 2 ^ 56 ≡ val f 8 = omega arith in
    front ∙ val_same f (accumulate_from last (bit_of b)) 8 (λ j k. sums_same last _ _ j (λ i m. first_bit b i (omega arith)))

pub returns : goal.returns
returns c =
    let b : ℕ = c.args.b in
    let small : b < 256 = c.ranges.b.fits in
    let byte = c.from.ensures in
    let whole : c.from.result * 2 ^ 56 % 2 ^ 64 ≡ b * 2 ^ 56 = omega arith in
    first_eight b c.args.last c.summed_64.result small c.requires
    (c.summed_64.ensures ∙ ap₂ (λ (l x : ℕ). val (accumulate_from l (packed.bit_of x)) 64) c.from-2.ensures whole)
