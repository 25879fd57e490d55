-- Why rows do: place c of row r is 792 r places on from place c.
use mathlib.Core.Path.{◌≡◌, ap, ◌∙◌}
use Prim.Native.Nat.{ℕ, ◌+◌, ◌*◌, ◌%◌}
use native.Mathlib.Omega.{arith}
use native.Mathlib.Nat.{add-mod, add-mul-mod_self_right}
use Rattle.sizes.specs.Sizes.{word_bits}
use Rattle.interleaver.specs.Interleaver.{source_bit}
use Rattle.interleaver.proofs.Laws.Squares.{square}

pub place_row : (r c : ℕ) → source_bit (72 * r + c) ≡ (792 * r % word_bits + source_bit c) % word_bits
unfolding source_bit
place_row r c =
    let start : ℕ = 792 * r + (11 * c + 210 * (c * c)) in
    let turns : ℕ = 72 * (r * r) + 2 * (r * c) in
    let e : 11 * (72 * r + c) + 210 * ((72 * r + c) * (72 * r + c)) ≡ start + turns * word_bits = omega (arith, square 72 r c) in
    ap (λ (n : ℕ). n % word_bits) e
    ∙ add-mul-mod_self_right start turns word_bits
    ∙ add-mod (792 * r) (11 * c + 210 * (c * c)) word_bits
