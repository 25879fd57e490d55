-- Step 4, the convolutional code from the zero state: outputs 1 + D², 1 + D + D², and 1 + D + D² again.
use Rattle.std.specs.Prelude.{ℕ, zero, suc, ◌+◌, ◌*◌, ◌/◌, ◌%◌, eqb}
use Rattle.std.specs.Int.Bits.{bit_xor}
use Rattle.bits.specs.Basics.{pick}
use Rattle.bits.specs.Pack.{cut}
use Rattle.sizes.specs.Sizes.{inputs_per, coded_per}

-- Step 3, termination: m bits, followed by zeros
abbrev pub terminated : ℕ → (ℕ → ℕ) → ℕ → ℕ
terminated m x = cut m x

-- D: the bit one place earlier, 0 before the first
unfoldable pub delay : (ℕ → ℕ) → ℕ → ℕ
delay x zero = 0
delay x (suc i) = x i

-- the first output, and the second, which is the third too
unfoldable pub first : (ℕ → ℕ) → ℕ → ℕ
first x i = bit_xor (x i) (delay (delay x) i)

unfoldable pub second : (ℕ → ℕ) → ℕ → ℕ
second x i = bit_xor (bit_xor (x i) (delay x i)) (delay (delay x) i)

-- the input bit from which coded bit j is made
unfoldable pub input_place : ℕ → ℕ → ℕ
input_place rate j = j * inputs_per rate / coded_per rate

-- coded bit j. The outputs that are kept come one after another: at 1/3 and 1/2 the first opens each input bit's outputs,
-- at 2/3 those of bits 0, 2, 4 and so on; all others are second (or third) outputs. The equations below say it place by place.
unfoldable pub encode : ℕ → (ℕ → ℕ) → ℕ → ℕ
encode rate x j = pick (eqb (j % coded_per rate) 0) (first x (input_place rate j)) (second x (input_place rate j))

-- and back, from the second output alone: its place for input bit i, and the bits that it makes
unfoldable pub second_place : ℕ → ℕ → ℕ
second_place rate i = (i * coded_per rate + inputs_per rate) / inputs_per rate

unfoldable pub recover : (ℕ → ℕ) → ℕ → ℕ
recover s zero = s 0
recover s (suc zero) = bit_xor (s 1) (s 0)
recover s (suc (suc i)) = bit_xor (bit_xor (s (suc (suc i))) (recover s (suc i))) (recover s i)

unfoldable pub decode : ℕ → (ℕ → ℕ) → ℕ → ℕ
decode rate c = recover (λ i. c (second_place rate i))
