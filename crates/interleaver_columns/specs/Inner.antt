-- Step 5 by columns. 72 places on are 792 coded bits on, and 2,160 are 30 times 72, so bits that stand 2,160 apart stay so: seven of them are moved
-- as one number. Of 72 columns each is taken by one of the word's, some lines further on; numbers that pass the last line are turned.
use Rattle.std.specs.Prelude.{◌≡◌, List, ℕ, ◌+◌, ◌-◌, ◌*◌, ◌/◌, ◌%◌, ◌^◌, ◌<◌, length, get_or}
use Rattle.sizes.specs.Sizes.{word_bits}
use Rattle.bits.specs.Inner.{Filled}
use Rattle.word_columns.specs.Inner.{row_bits, columns, line_bytes, lines, word_lines, plane_bytes, two_lines, mask_bytes, column}
use Rattle.interleaver.specs.Interleaver.{source_bit, output_place}

-- the seven bits that stand 2,160 apart from p on, where the first follows the last
unfoldable pub seven : (ℕ → ℕ) → ℕ → ℕ
seven f = column (λ j. f (j % word_bits))

-- a number for each of 72 columns
abbrev pub Each : (ℕ → ℕ) → List ℕ → Type 0
Each f xs = (length xs ≡ columns) × Filled f xs columns

-- the column of the coded bits that column c of the word takes, and the word's column that takes column b
abbrev pub taken_by : ℕ → ℕ
taken_by c = source_bit c % columns

unfoldable pub column_of : ℕ → ℕ
column_of b = output_place b % columns

-- of the masks by which the bits of column b go up by `up` b rows, for two lines, those of the first row
pub record First (up : ℕ → ℕ) (mask : List ℕ) : Type 0 where
  pub size : length mask ≡ mask_bytes
  pub entry : (y : ℕ) → y < two_lines → get_or mask y 0 ≡ 2 ^ up (y % columns)

-- ---- writing

-- so many that a column's numbers are those that its place asks for
unfoldable pub up_out : ℕ → ℕ
up_out b = (7 - source_bit (column_of b) / row_bits) % 7

-- seven coded bits as number k, with their column's rows gone up
unfoldable pub number_out : (ℕ → ℕ) → ℕ → ℕ
number_out f k = seven f (k + row_bits * (7 - up_out (k % columns)))

-- the word's column of byte k of plane m: of eight planes the last has the first bits of the bytes
abbrev pub column_at : ℕ → ℕ → ℕ
column_at m k = 8 * k + (7 - m)

-- where columns begin among the numbers, nine of each plane side by side
unfoldable pub from_out : ℕ → ℕ
from_out q = source_bit (column_at (q / line_bytes) (q % line_bytes)) % row_bits

-- ---- reading

-- the line that a column's numbers come from, the place where they start among the planes, and the rows by which their bits go up
abbrev pub back_row : ℕ → ℕ
back_row b = word_lines - source_bit (column_of b) / columns

unfoldable pub start_in : ℕ → ℕ
start_in b = 2 * plane_bytes * (7 - column_of b % 8) + line_bytes * (back_row b % lines) + column_of b / 8

unfoldable pub up_in : ℕ → ℕ
up_in b = back_row b / lines % 7
