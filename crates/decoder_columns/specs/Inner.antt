-- What the functions on columns ask, and what they say of rows, columns and sums of outputs.
use Rattle.std.specs.Prelude.{◌≡◌, List, ℕ, ◌*◌, ◌≤◌, ◌<◌, ◌+◌, length, get_or}
use Rattle.std.specs.Int.Bits.{bit_xor, bit_or}
use Rattle.bits.specs.Inner.{Filled}

-- The coded word in seven rows of 2,160 bits. A column (`column` of `word_columns`) has the seven bits at one place of the rows, the first row's
-- lowest, so that one byte says of seven places at once what the code says of one.

-- the coded bits, one to a place
abbrev pub bits_of : List ℕ → ℕ → ℕ
bits_of coded j = get_or coded j 0

-- a byte for each place of a row, and for the first eight of the next
abbrev pub row_places : ℕ
row_places = 2168

abbrev pub Row : List ℕ → Type 0
Row xs = length xs ≡ row_places

-- of these, the first n are g 0, g 1, ..
pub record Held (g : ℕ → ℕ) (xs : List ℕ) (n : ℕ) : Type 0 where
  pub size : Row xs
  pub below : Filled g xs n

-- sums of neighbours
abbrev pub sum_two : List ℕ → ℕ → ℕ
sum_two v x = bit_xor (get_or v x 0) (get_or v (x + 1) 0)

abbrev pub sum_five : List ℕ → ℕ → ℕ
sum_five v x = bit_xor (bit_xor (bit_xor (sum_two v x) (get_or v (x + 2) 0)) (get_or v (x + 3) 0)) (get_or v (x + 4) 0)

-- Whether sums of three columns are zero at every second or third place, without a branch: 48 places at once, joined by `bit_or`.

-- so many places, and how often a row has them
abbrev pub at_once : ℕ
at_once = 48

abbrev pub times : ℕ
times = 45

-- the sum of a at x, of b p places on, and of c q places on
abbrev pub sum_at : List ℕ → List ℕ → List ℕ → ℕ → ℕ → ℕ → ℕ
sum_at a b c p q x = bit_xor (bit_xor (get_or a x 0) (get_or b (x + p) 0)) (get_or c (x + q) 0)

-- three rows, and p and q for which their sums are there
pub record Three (a b c : List ℕ) (p q : ℕ) : Type 0 where
  pub a_size : Row a
  pub b_size : Row b
  pub c_size : Row c
  pub p_few : p ≤ 8
  pub q_few : q ≤ 8

-- those of 48 places from `at` on, joined to what was there
pub record Joined (a b c : List ℕ) (p q at n : ℕ) (before after : List ℕ) : Type 0 where
  pub long : length after ≡ length before
  pub here : (t : ℕ) → t < n → get_or after t 0 ≡ bit_or (get_or before t 0) (sum_at a b c p q (at + t))
  pub later : (t : ℕ) → n ≤ t → get_or after t 0 ≡ get_or before t 0

-- zero at every step-th of the first n places of 48, in each 48 of a row
abbrev pub NoSum : List ℕ → List ℕ → List ℕ → ℕ → ℕ → ℕ → ℕ → Type 0
NoSum a b c p q step n = (u m : ℕ) → u < times → m < n → sum_at a b c p q (at_once * u + step * m) ≡ 0
