-- Reading with no carried state. An input bit is the sum of the first and the second output of the bit after it; where all first outputs are those of
-- these sums, the coded bits are those of the sums.
use Rattle.std.specs.Prelude.{◌≡◌, List, ℕ, ◌+◌, ◌-◌, ◌%◌}
use Rattle.std.specs.Int.Bits.{bit_xor}
use Rattle.word_columns.specs.Inner.{column, Coded}
use Rattle.decoder_columns.specs.Inner.{bits_of, row_places, Held}

-- the bytes of the input bits of a row at each rate
abbrev pub third_bytes : ℕ
third_bytes = 90

abbrev pub half_bytes : ℕ
half_bytes = 135

abbrev pub two_thirds_bytes : ℕ
two_thirds_bytes = 180

-- the sum of two neighbours
abbrev pub pair_of : List ℕ → ℕ → ℕ
pair_of coded j = bit_xor (bits_of coded j) (bits_of coded (j + 1))

-- coded bits, their columns, and those of the sums of two neighbours
pub record Summed (coded v d : List ℕ) : Type 0 where
  pub coded_is : Coded coded
  pub columns : Held (column (bits_of coded)) v row_places
  pub pairs : Held (column (pair_of coded)) d (row_places - 1)

-- the first coded bit is the second, and the lowest bit of w
pub record StartsRight (coded : List ℕ) (w : ℕ) : Type 0 where
  pub same : bits_of coded 0 ≡ bits_of coded 1
  pub first : bits_of coded 0 ≡ w % 2
