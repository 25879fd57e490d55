-- The first one of a number, by the zeros before it.
use mathlib.Core.Path.{◌≡◌, sym, ap, ◌∙◌}
use Prim.Native.Nat.{ℕ, suc, ◌-◌, ◌*◌, ◌/◌, ◌%◌, ◌^◌, ◌≤◌, ◌<◌}
use native.Mathlib.Omega.{arith}
use native.Mathlib.Nat.{pow-suc, zero-div, div-eq_of_lt, div-lt_iff_lt-mul, le-div_iff_mul-le}
use lib.Pow.{pow_pos, pow_mono}
use Rattle.bits.specs.Pack.{val, Bits}
use Rattle.bits.proofs.Laws.Pack.{bit_val}
use Rattle.bits.specs.Inner.{Leads}

-- of a number of 64 bits: zeros, and then a one
pub first_one : (f : ℕ → ℕ) → Bits f → (r : ℕ) → Leads 64 (val f 64) r → ((k : ℕ) → k < r → f k ≡ 0) × (f r ≡ 1)
first_one f b r l =
    let v : ℕ = val f 64 in
    let s : r < 64 = l.small in
    let e : 64 - r ≡ suc (63 - r) = omega arith in
    let twice : v < 2 ^ (63 - r) * 2 = rw (e, pow-suc) at l.pass in
    let once : 2 ^ (63 - r) ≤ v = l.stop in
    let below : v / 2 ^ (63 - r) < 2 = (div-lt_iff_lt-mul (pow_pos (63 - r))).1 (omega arith) in
    let above : 1 ≤ v / 2 ^ (63 - r) = (le-div_iff_mul-le (pow_pos (63 - r))).1 (omega arith) in (
      λ k h.
          let wide : 2 ^ (64 - r) ≤ 2 ^ (63 - k) = pow_mono (let q : 64 - r ≤ 63 - k = omega arith in q) in
          let z : v / 2 ^ (63 - k) ≡ 0 = let p = l.pass in div-eq_of_lt (omega arith) in
          sym (bit_val f b (63 - k) k 64 (omega arith)) ∙ ap (λ (n : ℕ). n % 2) z,
      sym (bit_val f b (63 - r) r 64 (omega arith)) ∙ omega arith,
    )

pub no_one : (f : ℕ → ℕ) → Bits f → val f 64 ≡ 0 → (k : ℕ) → k < 64 → f k ≡ 0
no_one f b e k h =
    sym (bit_val f b (63 - k) k 64 (omega arith)) ∙ ap (λ (n : ℕ). n / 2 ^ (63 - k) % 2) e ∙ ap (λ (n : ℕ). n % 2) (zero-div (2 ^ (63 - k)))
