-- A bit of a column.
use mathlib.Core.Path.{◌≡◌, ap, ◌∙◌}
use Prim.Native.Nat.{ℕ, ◌+◌, ◌-◌, ◌*◌, ◌/◌, ◌%◌, ◌^◌, ◌<◌}
use native.Mathlib.Omega.{arith}
use Rattle.bits.specs.Pack.{Bits}
use Rattle.bits.proofs.Laws.Pack.{bit_val}
use Rattle.word_columns.specs.Inner.{column}

pub column_bit : (f : ℕ → ℕ) → Bits f → (x k : ℕ) → k < 7 → column f x / 2 ^ k % 2 ≡ f (x + 2160 * k)
unfolding column
column_bit f b x k l =
    let e : 6 - (6 - k) ≡ k = omega arith in
    bit_val (λ t. f (x + 2160 * (6 - t))) (λ t. b (x + 2160 * (6 - t))) k (6 - k) 7 (omega arith) ∙ ap (λ (r : ℕ). f (x + 2160 * r)) e
