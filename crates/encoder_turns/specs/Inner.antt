-- What the functions of a turn ask of the tables, and what a turn puts.
use Rattle.std.specs.Prelude.{◌≡◌, List, ℕ, ◌*◌, ◌<◌, ◌+◌, ◌-◌, ◌/◌, ◌%◌, ◌^◌, length, get_or, eqb}
use Rattle.std.specs.Int.Bits.{bit_xor}
use Rattle.sizes.specs.Sizes.{word_bits, coded_per}
use Rattle.bits.specs.Basics.{pick}
use Rattle.convolution.specs.Code.{input_place}

-- n bytes of input bits, and a buffer for the coded bits
pub record Codes (n : ℕ) (input coded : List ℕ) : Type 0 where
  pub input_size : length input ≡ n
  pub coded_size : length coded ≡ word_bits

-- What a turn of the coder's loop does: the coded bits of whole input bytes, eight at once from a table.

-- bit k of n bits as a number, the first highest; and byte t of a number, the lowest first
abbrev pub bit_in : ℕ → ℕ → ℕ → ℕ
bit_in n w k = w / 2 ^ (n - 1 - k) % 2

abbrev pub byte_of : ℕ → ℕ → ℕ
byte_of v t = v / 2 ^ (8 * t) % 256

-- coded bit u of a turn, from its input bits and the two before them: f (i + 2) is input bit i
unfoldable pub turn_bit : ℕ → (ℕ → ℕ) → ℕ → ℕ
turn_bit rate f u =
    let s : ℕ = input_place rate u in
    pick (eqb (u % coded_per rate) 0) (bit_xor (f (s + 2)) (f s)) (bit_xor (bit_xor (f (s + 2)) (f (s + 1))) (f s))

-- from entry `base` on, a table has eight coded bits of a turn, those from bit u on, by the m bits that make them: f o, f (o + 1), ..
pub record Entries (rate u o m base : ℕ) (table : List ℕ) : Type 0 where
  pub entry : (w t : ℕ) → w < 2 ^ m → t < 8 → byte_of (get_or table (base + w) 0) t ≡ turn_bit rate (λ k. bit_in m w (k - o)) (u + t)

-- the tables of the three rates
pub record Thirds (table : List ℕ) : Type 0 where
  pub long : length table ≡ 128
  pub first : Entries 0 0 0 5 0 table
  pub next : Entries 0 8 2 6 32 table
  pub last : Entries 0 16 5 5 96 table

pub record Halves (table : List ℕ) : Type 0 where
  pub long : length table ≡ 64
  pub first : Entries 1 0 0 6 0 table
  pub last : Entries 1 8 4 6 0 table

pub record TwoThirds (table : List ℕ) : Type 0 where
  pub long : length table ≡ 640
  pub first : Entries 2 0 0 7 0 table
  pub next : Entries 2 8 5 8 128 table
  pub last : Entries 2 16 10 8 384 table
