-- A coded word in seven rows of 2,160 bits, each in 30 lines of 72 columns; the seven bits at one place of the rows are one number.
use Rattle.std.specs.Prelude.{◌≡◌, List, ℕ, zero, suc, ◌+◌, ◌-◌, ◌*◌, ◌/◌, ◌%◌, ◌<◌, ltb, eqb, length, get_or}
use Rattle.std.specs.Int.Bits.{bit_and}
use Rattle.bits.specs.Basics.{pick}
use Rattle.bits.specs.Pack.{val}
use Rattle.sizes.specs.Sizes.{word_bits}

-- the bits of a row, by which rows are apart; the columns of a line, and the bytes that they fill; the lines of a row and of a word
abbrev pub row_bits : ℕ
row_bits = 2160

abbrev pub columns : ℕ
columns = 72

abbrev pub line_bytes : ℕ
line_bytes = 9

abbrev pub lines : ℕ
lines = 30

abbrev pub word_lines : ℕ
word_lines = 210

-- the bytes of a plane, which has 30 lines of nine
abbrev pub plane_bytes : ℕ
plane_bytes = 270

-- the columns of two lines, and the masks of seven rows for them
abbrev pub two_lines : ℕ
two_lines = 144

abbrev pub mask_bytes : ℕ
mask_bytes = 1008

-- a coded word, a bit to a byte
pub record Coded (coded : List ℕ) : Type 0 where
  pub size : length coded ≡ word_bits
  pub bits : (i : ℕ) → get_or coded i 0 < 2

-- the seven bits of f at place x of the rows as one number, the first lowest
unfoldable pub column : (ℕ → ℕ) → ℕ → ℕ
column f x = val (λ t. f (x + row_bits * (6 - t))) 7

-- ---- rows

-- the seven bits from the next row on: the first becomes the last
abbrev pub turn_of : ℕ → ℕ
turn_of v = v / 2 + v % 2 * 64

-- of the first n numbers, m stand turned after them
pub record Turned (n m : ℕ) (before after : List ℕ) : Type 0 where
  pub long : length after ≡ length before
  pub earlier : (k : ℕ) → k < n → get_or after k 0 ≡ get_or before k 0
  pub here : (x : ℕ) → x < m → get_or after (n + x) 0 ≡ turn_of (get_or before x 0)

-- planes, each with its numbers turned after it
unfoldable pub doubled_at : List ℕ → ℕ → ℕ
doubled_at planes y =
    pick (ltb (y % (2 * plane_bytes)) plane_bytes) (get_or planes (plane_bytes * (y / (2 * plane_bytes)) + y % (2 * plane_bytes)) 0)
    (turn_of (get_or planes (plane_bytes * (y / (2 * plane_bytes)) + (y % (2 * plane_bytes) - plane_bytes)) 0))

-- where byte k comes from where line r is line `by` times r
abbrev pub nine_of : ℕ → ℕ → ℕ
nine_of by k = line_bytes * (by * (k / line_bytes) % word_lines) + k % line_bytes

-- ---- masks

-- the bit one up: the last becomes the first
abbrev pub roll : ℕ → ℕ
roll v = v / 64 + v % 64 * 2

-- m masks after those of the first bit are each the one before it, rolled
pub record Rolled (m : ℕ) (before after : List ℕ) : Type 0 where
  pub long : length after ≡ length before
  pub first : (y : ℕ) → y < two_lines → get_or after y 0 ≡ get_or before y 0
  pub next : (x : ℕ) → x < m → get_or after (x + two_lines) 0 ≡ roll (get_or after x 0)

-- ---- mixing

-- h 0 times w 0 plus h 1 times w 1 and so on
unfoldable pub mix_sum : (ℕ → ℕ) → (ℕ → ℕ) → ℕ → ℕ
mix_sum h w zero = 0
mix_sum h w (suc n) = mix_sum h w n + h n * w n

-- the masks of a column fit a byte together
pub record Light (mask : List ℕ) : Type 0 where
  pub size : length mask ≡ mask_bytes
  pub fits : (y : ℕ) → y < two_lines → mix_sum (λ i. 1) (λ i. get_or mask (two_lines * i + y) 0) 7 < 256

-- the seven coded bits from x on, each times the mask of its column
unfoldable pub mixed_at : List ℕ → List ℕ → ℕ → ℕ
mixed_at coded mask x = mix_sum (λ i. get_or coded (x + row_bits * i) 0) (λ i. get_or mask (two_lines * i + x % two_lines) 0) 7

-- ---- picking

-- where the columns start: 30 lines from there on lie within, the last 29 times nine on
pub record Starts (at : List ℕ) : Type 0 where
  pub size : length at ≡ columns
  pub room : (b : ℕ) → b < columns → get_or at b 0 < 2 * row_bits - lines * line_bytes

-- number x: line x / 72 of column x % 72
unfoldable pub picked_at : List ℕ → List ℕ → ℕ → ℕ
picked_at v at x = get_or v (line_bytes * (x / columns) + get_or at (x % columns) 0) 0

-- the first i times eight numbers: eight columns at a time, and of these line after line
abbrev pub Picked : List ℕ → List ℕ → ℕ → List ℕ → Type 0
Picked v at i seen = (y : ℕ) → y < row_bits → lines * (y % columns / 8) + y / columns < i → get_or seen y 0 ≡ picked_at v at y

-- 1 where x has a bit of m
unfoldable pub has_bit : ℕ → ℕ → ℕ
has_bit x m = pick (eqb (bit_and x m) 0) 0 1

-- coded bit x of the numbers
unfoldable pub split_at : List ℕ → List ℕ → ℕ → ℕ
split_at seen mask x = has_bit (get_or seen (x % row_bits) 0) (get_or mask (two_lines * (x / row_bits) + x % two_lines) 0)
