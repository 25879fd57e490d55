-- Step 6, the accumulator: each output is the input plus the output before it, starting from 0.
use Rattle.std.specs.Prelude.{ℕ, zero, suc}
use Rattle.std.specs.Int.Bits.{bit_xor}

unfoldable pub accumulate : (ℕ → ℕ) → ℕ → ℕ
accumulate f zero = f 0
accumulate f (suc j) = bit_xor (f (suc j)) (accumulate f j)

-- and back: each input is the sum of an output and the output before it
unfoldable pub differentiate : (ℕ → ℕ) → ℕ → ℕ
differentiate g zero = g 0
differentiate g (suc j) = bit_xor (g (suc j)) (g j)
