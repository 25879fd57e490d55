-- Symbols of packed words, one to a byte of a row.
use Rattle.std.specs.Prelude.{◌≡◌, List, ℕ, ◌+◌, ◌-◌, ◌*◌, ◌/◌, ◌%◌, ◌^◌, ◌≤◌, ◌<◌, length, get_or}
use Rattle.std.specs.Int.Bits.{bit_and}
use Rattle.bits.specs.Pack.{val, bit_at}

-- symbol t, of m bits, of packed words
abbrev pub symbol_in : ℕ → List ℕ → ℕ → ℕ
symbol_in m words t = val (λ i. bit_at words (m * t + i)) m

-- `count` bytes, n apart, from byte `from` on are f 0, f 1, ..; the others are unchanged
pub record Column (before : List ℕ) (from n count : ℕ) (f : ℕ → ℕ) (after : List ℕ) : Type 0 where
  pub long : length after ≡ length before
  pub here : (j : ℕ) → j < count → get_or after (from + j * n) 0 ≡ f j
  pub others : (k : ℕ) → ((j : ℕ) → j < count → k ≡ from + j * n → ⊥) → get_or after k 0 ≡ get_or before k 0

-- the same of those bytes j for which j mod `turn` is less than u
pub record Turned (before : List ℕ) (from n count turn u : ℕ) (f : ℕ → ℕ) (after : List ℕ) : Type 0 where
  pub long : length after ≡ length before
  pub here : (j : ℕ) → j < count → j % turn < u → get_or after (from + j * n) 0 ≡ f j
  pub others : (k : ℕ) → ((j : ℕ) → j < count → j % turn < u → k ≡ from + j * n → ⊥) → get_or after k 0 ≡ get_or before k 0

-- of the places from x on, n apart, `count` are before `end`
pub record Places (x end n count : ℕ) : Type 0 where
  pub before : (j : ℕ) → j < count → x + j * n < end
  pub all : (j : ℕ) → x + j * n < end → j < count

-- the symbols t, t + n, .. lie in the words, and their bytes in the row
pub record Gather (m t n count : ℕ) (words : List ℕ) (from : ℕ) (row : List ℕ) : Type 0 where
  pub bits_least : 1 ≤ m
  pub bits_most : m ≤ 8
  pub step_least : 1 ≤ n
  pub step_most : n ≤ 128
  pub count_most : count ≤ 2 ^ 16
  pub t_most : t < 2 ^ 24
  pub from_most : from < 2 ^ 24
  pub few : (j : ℕ) → j < count → t + j * n < 2 ^ 23
  pub inside : (j : ℕ) → j < count → m * (t + j * n) + m ≤ 8 * length words
  pub room : (j : ℕ) → j < count → from + j * n < length row

-- bytes at, at + step, .. lie in the words, and bytes from, from + n, .. in the row
pub record Strides (at step shift mask : ℕ) (words : List ℕ) (from n count : ℕ) (row : List ℕ) : Type 0 where
  pub shift_most : shift < 8
  pub mask_most : mask < 256
  pub step_most : step ≤ 1024
  pub n_least : 1 ≤ n
  pub n_most : n ≤ 1024
  pub at_most : at + count * step < 2 ^ 33
  pub from_most : from + count * n < 2 ^ 33
  pub inside : (j : ℕ) → j < count → at + j * step < length words
  pub room : (j : ℕ) → j < count → from + j * n < length row

-- bits cut out of bytes that are `step` apart
abbrev pub cut_from : List ℕ → ℕ → ℕ → ℕ → ℕ → ℕ → ℕ
cut_from words at step shift mask j = bit_and (get_or words (at + j * step) 0 / 2 ^ shift) mask

-- `turn` symbols of m bits make a byte
pub record Bytewise (m turn mask : ℕ) : Type 0 where
  pub whole : turn * m ≡ 8
  pub mask_is : mask ≡ 2 ^ m - 1
