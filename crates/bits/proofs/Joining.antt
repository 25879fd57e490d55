-- Bytes joined to one number.
use mathlib.Core.Path.{◌≡◌, refl, ap, ◌∙◌}
use mathlib.Core.List.{List}
use Prim.Native.Nat.{ℕ, ◌+◌, ◌*◌, ◌^◌}
use native.Mathlib.Omega.{arith}
use lib.ListN.{get_or}
use Rattle.bits.specs.Pack.{val, bit_at, Bytes}
use Rattle.bits.proofs.Laws.Pack.{val_same}
use Rattle.bits.proofs.Laws.Parts.{val_split, byte_val}

none_joined : (f : ℕ → ℕ) → val f 0 ≡ 0
unfolding val
none_joined f = refl

-- one byte more
joined_more : (xs : List ℕ) → Bytes xs → (at i : ℕ)
    → val (λ t. bit_at xs (8 * at + t)) (8 * i + 8) ≡ val (λ t. bit_at xs (8 * at + t)) (8 * i) * 256 + get_or xs (at + i) 0
joined_more xs b at i =
    let f : ℕ → ℕ = λ t. bit_at xs (8 * at + t) in
    val_split f (8 * i) 8
    ∙ ap (λ (n : ℕ). val f (8 * i) * 256 + n)
    (val_same (λ t. f (8 * i + t)) (λ t. bit_at xs (8 * (at + i) + t)) 8 (λ t k. ap (bit_at xs) (omega arith)) ∙ byte_val xs (at + i) (b (at + i)))

-- eight bytes, each at its worth
pub joined_eight : (xs : List ℕ) → Bytes xs → (at v : ℕ)
    → v ≡ get_or xs at 0 * 256 ^ 7 + get_or xs (at + 1) 0 * 256 ^ 6 + get_or xs (at + 2) 0 * 256 ^ 5 + get_or xs (at + 3) 0 * 256 ^ 4 + get_or xs (at + 4) 0 * 256 ^ 3 + get_or xs (at + 5) 0 * 256 ^ 2 + get_or xs (at + 6) 0 * 256 ^ 1 + get_or xs (at + 7) 0
    → v ≡ val (λ t. bit_at xs (8 * at + t)) 64
joined_eight xs b at v e =
    let f : ℕ → ℕ = λ t. bit_at xs (8 * at + t) in
    let none : val f 0 ≡ 0 = none_joined f in
    let first : at + 0 ≡ at = omega arith in
    let s0 : val f 8 ≡ val f 0 * 256 + get_or xs (at + 0) 0 = joined_more xs b at 0 in
    let r0 : get_or xs (at + 0) 0 ≡ get_or xs at 0 = ap (λ (i : ℕ). get_or xs i 0) first in
    let s1 : val f 16 ≡ val f 8 * 256 + get_or xs (at + 1) 0 = joined_more xs b at 1 in
    let s2 : val f 24 ≡ val f 16 * 256 + get_or xs (at + 2) 0 = joined_more xs b at 2 in
    let s3 : val f 32 ≡ val f 24 * 256 + get_or xs (at + 3) 0 = joined_more xs b at 3 in
    let s4 : val f 40 ≡ val f 32 * 256 + get_or xs (at + 4) 0 = joined_more xs b at 4 in
    let s5 : val f 48 ≡ val f 40 * 256 + get_or xs (at + 5) 0 = joined_more xs b at 5 in
    let s6 : val f 56 ≡ val f 48 * 256 + get_or xs (at + 6) 0 = joined_more xs b at 6 in
    let s7 : val f 64 ≡ val f 56 * 256 + get_or xs (at + 7) 0 = joined_more xs b at 7 in
    omega arith
