-- What the functions on packed bits require, and what they promise of the bytes that they change.
use Rattle.std.specs.Prelude.{List, ℕ, ◌*◌, ◌≤◌, ◌+◌, ◌<◌, ◌/◌, ◌%◌, ◌^◌, ◌-◌, length, get_or, set, ◌≡◌, ltb, leb}
use Rattle.std.specs.Int.Bits.{bit_or}
use Rattle.bits.specs.declared.pieces.Position.{Position}
use Rattle.bits.specs.Pack.{val, bit_at, cut}
use Rattle.bits.specs.Basics.{pick}

-- bits x to `end` lie in b
pub record Within (b : List ℕ) (x end : ℕ) : Type 0 where
  pub order : x ≤ end
  pub room : end ≤ 8 * length b

-- p is the position of bit x
pub record At (k x : ℕ) (p : Position) : Type 0 where
  pub place : p.piece * k + p.bit ≡ x
  pub inside : p.bit < k

-- byte b with its bit r, from the top, set
unfoldable pub with_bit : ℕ → ℕ → ℕ
with_bit b r = bit_or b (128 / 2 ^ r)

-- the bytes with bit x set
abbrev pub put_bit : List ℕ → ℕ → List ℕ
put_bit xs x = set xs (x / 8) (with_bit (get_or xs (x / 8) 0) (x % 8))

-- the n bytes from `at` on have the bits f 0, f 1, ..; the bytes before and after them are unchanged
pub record Laid (before : List ℕ) (at n : ℕ) (f : ℕ → ℕ) (after : List ℕ) : Type 0 where
  pub long : length after ≡ length before
  pub earlier : (k : ℕ) → k < at → get_or after k 0 ≡ get_or before k 0
  pub here : (t : ℕ) → t < n → get_or after (at + t) 0 ≡ val (λ u. f (8 * t + u)) 8
  pub later : (k : ℕ) → at + n ≤ k → get_or after k 0 ≡ get_or before k 0

-- n bytes, at least one, were written from `at` on: no more than `bits` bits and `room` bytes
pub record Made (bits room : ℕ) (before : List ℕ) (at n : ℕ) (f : ℕ → ℕ) (after : List ℕ) : Type 0 where
  pub some : 1 ≤ n
  pub few : 8 * n ≤ bits
  pub fit : n ≤ room
  pub laid : Laid before at n f after

-- the first n places of a list hold f 0, f 1, ..
abbrev pub Filled : (ℕ → ℕ) → List ℕ → ℕ → Type 0
Filled f xs n = (k : ℕ) → k < n → get_or xs k 0 ≡ f k

-- ---- reading packed bytes

-- the eight bits from bit r of two bytes on
abbrev pub eight_of : ℕ → ℕ → ℕ → ℕ
eight_of hi lo r = (hi * 256 + lo) / 2 ^ (8 - r) % 256

-- ---- copied bytes

-- the n bytes from `at` on have been copied to `to`; the bytes before and after the copy are unchanged
pub record Copied (from : List ℕ) (at : ℕ) (before : List ℕ) (to n : ℕ) (after : List ℕ) : Type 0 where
  pub long : length after ≡ length before
  pub earlier : (k : ℕ) → k < to → get_or after k 0 ≡ get_or before k 0
  pub here : (t : ℕ) → t < n → get_or after (to + t) 0 ≡ get_or from (at + t) 0
  pub later : (k : ℕ) → to + n ≤ k → get_or after k 0 ≡ get_or before k 0

-- ---- spare bits

-- the bits before `end`, followed by zeros
pub record Ends (before : List ℕ) (end : ℕ) (after : List ℕ) : Type 0 where
  pub long : length after ≡ length before
  pub bits : (x : ℕ) → x < 8 * length before → bit_at after x ≡ cut end (bit_at before) x

-- the first r of v's w bits are zeros, and the next is a one
pub record Leads (w v r : ℕ) : Type 0 where
  pub small : r < w
  pub pass : v < 2 ^ (w - r)
  pub stop : 2 ^ (w - 1 - r) ≤ v

unfoldable pub lesser : ℕ → ℕ → ℕ
lesser x y = pick (ltb x y) x y

-- the bits that a window of n bytes shows, from byte i on and from bit x on
unfoldable pub shown : ℕ → ℕ → ℕ
shown n i = pick (leb (i + 8) n) 64 8

unfoldable pub reach : ℕ → ℕ → ℕ
reach n x = shown n (x / 8) - x % 8

-- the bits from x on
abbrev pub bits_from : List ℕ → ℕ → ℕ → ℕ
bits_from b x k = bit_at b (x + k)
