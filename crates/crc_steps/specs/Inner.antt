-- What a byte, or six bits and the zeros after them, make of a register of zeros, and the tables of that.
use Rattle.std.specs.Prelude.{ℕ, ◌-◌, ◌/◌, ◌%◌, ◌^◌, ◌+◌, ◌*◌, ◌<◌, ◌≡◌, List, length, get_or}
use Rattle.crc.specs.Inner.{advances}

-- bit t of a byte, the highest first
abbrev pub byte_bit : ℕ → ℕ → ℕ
byte_bit v t = v / 2 ^ (7 - t) % 2

-- what the bits of a byte make of a register of zeros
unfoldable pub change : ℕ → ℕ
change v = advances 0 (byte_bit v) 8

-- no ones
abbrev pub none : ℕ → ℕ
none i = 0

-- what six bits make of a register of zeros
abbrev pub six_bits : ℕ → ℕ
six_bits n = advances 0 (λ t. n / 2 ^ (5 - t) % 2) 6

-- and 6 k zero bits after them
unfoldable pub change_of : ℕ → ℕ → ℕ
change_of k n = advances (six_bits n) none (6 * k)

-- the tables' rule: eleven of 64 entries, one after the other
pub record Tables (table : List ℕ) : Type 0 where
  pub size : length table ≡ 704
  pub entry : (k n : ℕ) → k < 11 → n < 64 → get_or table (64 * k + n) 0 ≡ change_of k n
