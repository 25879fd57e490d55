-- The sizes of the three rates: bounds, and what goes into what.
use mathlib.Core.Path.{◌≡◌, refl}
use Prim.Native.Nat.{ℕ, zero, suc, ◌+◌, ◌*◌, ◌≤◌, ◌<◌}
use native.Mathlib.Omega.{arith}
use Rattle.sizes.specs.Sizes.{info_bits, block_bytes}

-- what holds at each rate holds for every rate that question 2 lets pass
pub by_rate : (P : ℕ → Type 0) → P 0 → P 1 → P 2 → (rate : ℕ) → rate < 3 → P rate
by_rate P p0 p1 p2 zero h = p0
by_rate P p0 p1 p2 (suc zero) h = p1
by_rate P p0 p1 p2 (suc (suc zero)) h = p2
by_rate P p0 p1 p2 (suc (suc (suc r))) h = absurd (omega arith)

-- a block's bytes hold its bits and two more
pub block_size : (rate : ℕ) → rate < 3 → 8 * block_bytes rate ≡ info_bits rate + 2
unfolding block_bytes info_bits
block_size = by_rate (λ (r : ℕ). 8 * block_bytes r ≡ info_bits r + 2) refl refl refl

-- no block is longer than one at 2/3
pub info_le : (rate : ℕ) → info_bits rate ≤ 10046
unfolding info_bits
info_le zero = omega arith
info_le (suc zero) = omega arith
info_le (suc (suc r)) = omega arith

-- nor shorter than one at 1/3
pub info_ge : (rate : ℕ) → 5006 ≤ info_bits rate
unfolding info_bits
info_ge zero = omega arith
info_ge (suc zero) = omega arith
info_ge (suc (suc r)) = omega arith

pub info_pos : (rate : ℕ) → 0 < info_bits rate
info_pos rate = omega (arith, info_ge rate)

-- room for 10,080 input bits is room for those of any rate
pub input_room : (rate : ℕ) → rate < 3 → info_bits rate + 34 ≤ 10080
unfolding info_bits
input_room = by_rate (λ (r : ℕ). info_bits r + 34 ≤ 10080) (omega arith) (omega arith) (omega arith)

-- and 1,256 bytes for a packed block of any rate
pub block_room : (rate : ℕ) → rate < 3 → block_bytes rate ≤ 1256
unfolding block_bytes info_bits
block_room = by_rate (λ (r : ℕ). block_bytes r ≤ 1256) (omega arith) (omega arith) (omega arith)
