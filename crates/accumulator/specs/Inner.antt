-- Step 6 several places at a time, from any place on, given the bit before it.
use Rattle.std.specs.Prelude.{◌≡◌, List, ℕ, zero, suc, ◌+◌, ◌-◌, ◌*◌, ◌/◌, ◌%◌, ◌^◌, ◌≤◌, ◌<◌, length, get_or}
use Rattle.std.specs.Int.Bits.{bit_xor}
use Rattle.bits.specs.Pack.{val, bit_at}
use Rattle.accumulator.specs.Accumulator.{accumulate}

-- bit t of a byte
abbrev pub bit_of : ℕ → ℕ → ℕ
bit_of b t = b / 2 ^ (7 - t) % 2

-- the value before place j; p before the first
unfoldable pub behind : ℕ → (ℕ → ℕ) → ℕ → ℕ
behind p g zero = p
behind p g (suc j) = g j

-- the accumulator, given that the output before the first is p
unfoldable pub accumulate_from : ℕ → (ℕ → ℕ) → ℕ → ℕ
accumulate_from p f zero = bit_xor (f 0) p
accumulate_from p f (suc j) = bit_xor (f (suc j)) (accumulate_from p f j)

unfoldable pub differentiate_from : ℕ → (ℕ → ℕ) → ℕ → ℕ
differentiate_from p g j = bit_xor (g j) (behind p g j)

-- byte k of the outputs
abbrev pub outputs : List ℕ → ℕ → ℕ
outputs xs k = val (λ t. accumulate (bit_at xs) (8 * k + t)) 8

-- a list changed in place up to i: the first i elements are done, the others unchanged
pub record Made (f : ℕ → ℕ) (given out : List ℕ) (i : ℕ) : Type 0 where
  pub size : length out ≡ length given
  pub done : (k : ℕ) → k < i → get_or out k 0 ≡ f k
  pub rest : (k : ℕ) → i ≤ k → get_or out k 0 ≡ get_or given k 0

-- the first i bytes hold their outputs, and `last` is the output before bit 8 i
pub record SoFar (given out : List ℕ) (i last : ℕ) : Type 0 where
  pub made : Made (outputs given) given out i
  pub before : last ≡ behind 0 (accumulate (bit_at given)) (8 * i)
