-- How many places differ, how many ones there are, and sums of many bits modulo 2.
use Rattle.std.specs.Prelude.{ℕ, zero, suc, ◌+◌, eqb}
use Rattle.std.specs.Int.Bits.{bit_xor}
use Rattle.bits.specs.Basics.{pick}

-- How many places differ, and how many ones there are.

-- the number of places below n at which f and g differ
unfoldable pub differences : (ℕ → ℕ) → (ℕ → ℕ) → ℕ → ℕ
differences f g zero = 0
differences f g (suc n) = differences f g n + pick (eqb (f n) (g n)) 0 1

-- the number of ones below n: the sum f 0 + .. + f (n - 1)
unfoldable pub weight : (ℕ → ℕ) → ℕ → ℕ
weight f zero = 0
weight f (suc n) = weight f n + f n

-- Sums of many bits, modulo 2.

-- f 0 + f 1 + .. + f (n - 1)
unfoldable pub xor_sum : (ℕ → ℕ) → ℕ → ℕ
xor_sum f zero = 0
xor_sum f (suc n) = bit_xor (xor_sum f n) (f n)
