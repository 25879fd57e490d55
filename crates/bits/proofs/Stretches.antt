-- Two bytes hold eight bits that follow one another.
use mathlib.Core.Path.{◌≡◌, sym, ap, ap₂, ◌∙◌}
use mathlib.Core.List.{List}
use Prim.Native.Nat.{ℕ, ◌+◌, ◌-◌, ◌*◌, ◌/◌, ◌%◌, ◌^◌, ◌<◌}
use native.Mathlib.Omega.{arith}
use lib.Arith.{digits_div, digits_mod}
use lib.ListN.{get_or}
use Rattle.bits.specs.Pack.{Bits, Bytes, val, bit_at}
use Rattle.bits.proofs.Laws.Pack.{bit_lt, val_same, val_lt}
use Rattle.bits.proofs.Laws.Parts.{val_split, byte_val}
use Rattle.bits.specs.Inner.{eight_of}

-- the eight bits from bit y + 8 t on lie in bytes t and t + 1, counted from the byte of bit y on
pub eight_of_lem : (bs : List ℕ) (y t : ℕ) → Bytes bs → eight_of (get_or bs (y / 8 + t) 0) (get_or bs (y / 8 + t + 1) 0) (y % 8) ≡ val (λ u. bit_at bs (y + (8 * t + u))) 8
eight_of_lem bs y t b =
    let q : ℕ = y / 8 + t in
    let r : ℕ = y % 8 in
    let f : ℕ → ℕ = λ u. bit_at bs (8 * q + u) in
    let bits : Bits f = λ u. bit_lt bs (8 * q + u) in
    let second : val (λ u. f (8 + u)) 8 ≡ get_or bs (q + 1) 0 =
    val_same (λ u. f (8 + u)) (λ u. bit_at bs (8 * (q + 1) + u)) 8 (λ u l. let e : 8 * q + (8 + u) ≡ 8 * (q + 1) + u = omega arith in ap (bit_at bs) e) ∙ byte_val bs (q + 1) (b (q + 1)) in
    let both : get_or bs q 0 * 256 + get_or bs (q + 1) 0 ≡ val f 16 =
    sym (val_split f 8 8 ∙ ap₂ (λ (x y : ℕ). x * 256 + y) (byte_val bs q (b q)) second) in
    let whole : 16 ≡ r + 8 + (8 - r) = omega arith in
    let low : val (λ u. f (r + 8 + u)) (8 - r) < 2 ^ (8 - r) = val_lt (λ u. f (r + 8 + u)) (λ u. bits (r + 8 + u)) (8 - r) in
    let upper : val f 16 / 2 ^ (8 - r) ≡ val f (r + 8) =
    ap (λ (n : ℕ). n / 2 ^ (8 - r)) (ap (val f) whole ∙ val_split f (r + 8) (8 - r)) ∙ digits_div (val f (r + 8)) low in
    let small : val (λ u. f (r + u)) 8 < 256 = val_lt (λ u. f (r + u)) (λ u. bits (r + u)) 8 in
    ap (λ (n : ℕ). n / 2 ^ (8 - r) % 256) both
    ∙ ap (λ (n : ℕ). n % 256) (upper ∙ val_split f r 8)
    ∙ digits_mod (val f r) small
    ∙ val_same (λ u. f (r + u)) (λ u. bit_at bs (y + (8 * t + u))) 8 (λ u l. let e : 8 * q + (r + u) ≡ y + (8 * t + u) = omega arith in ap (bit_at bs) e)
