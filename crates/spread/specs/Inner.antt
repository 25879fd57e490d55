-- What the private functions require, and how the input changes with a block bit.
use Rattle.std.specs.Prelude.{◌≡◌, List, ℕ, ◌*◌, ◌<◌, ◌+◌, length, get_or, eqb}
use Rattle.sizes.specs.Sizes.{info_bits, word_bits, word_bytes}
use Rattle.sizes.specs.Inner.{input_bits}
use Rattle.bits.specs.Basics.{bool}
use Rattle.crc.specs.Inner.{checked_change}
use Rattle.convolution.specs.Code.{terminated}

-- a rate, one of its block bits, and n bytes for the places
pub record Marks (rate bit n : ℕ) : Type 0 where
  pub rate_is : rate < 3
  pub bit_is : bit < info_bits rate
  pub places_are : n ≡ word_bytes

-- a rate, one of its block bits, some block of any rate, and zeros for the input bits
pub record Changes (rate bit : ℕ) (block input : List ℕ) : Type 0 where
  pub rate_is : rate < 3
  pub bit_is : bit < info_bits rate
  pub block_is : length block ≡ 1256
  pub input_is : 8 * length input ≡ input_bits rate
  pub zeros_are : (i : ℕ) → get_or input i 0 ≡ 0

-- and a buffer for the coded bits
pub record Codes (rate bit : ℕ) (block input coded : List ℕ) : Type 0 where
  pub changes : Changes rate bit block input
  pub coded_is : length coded ≡ word_bits

-- the input bits of the code that change with block bit b: itself, and what changes in the check
unfoldable pub input_change : ℕ → ℕ → ℕ → ℕ
input_change rate b = terminated (info_bits rate + 32) (checked_change (info_bits rate) (λ i. bool (eqb i b)))
