-- What the functions of steps 8 and 9 require, and a symbol written into the words.
use Rattle.std.specs.Prelude.{◌≡◌, ℕ, ◌%◌, ◌^◌, ◌≤◌, ◌<◌, ◌*◌, ◌+◌, ◌-◌, ◌/◌, List, length}
use Rattle.std.specs.Int.Bits.{bit_xor}
use Rattle.bits.specs.Pack.{bit_at}
use Rattle.channel.specs.declared.Layout.{Layout}
use Rattle.channel.specs.Channel.{total}

-- N and B of a header, fewer symbols than any run has slots, and a place with its remainder modulo N
pub record Placing (rows step total x r : ℕ) : Type 0 where
  pub rows_least : 1 ≤ rows
  pub rows_most : rows ≤ 128
  pub step_most : step ≤ 256
  pub total_most : total < 2 ^ 31
  pub remainder : r ≡ x % rows

-- ---- places

-- how far a symbol that is r modulo N is delayed
abbrev pub delay : Layout → ℕ → ℕ
delay g r = r * (g.step * g.rows)

-- N, B and C-as-S are those of a layout
pub record Numbers (g : Layout) (rows step count : ℕ) : Type 0 where
  pub rows_are : g.rows ≡ rows
  pub step_is : g.step ≡ step
  pub total_is : total g ≡ count

-- ---- symbols in packed words

-- symbol t, of m bits, is within the words
pub record Takes (t m : ℕ) (words : List ℕ) : Type 0 where
  pub bits_least : 1 ≤ m
  pub bits_most : m ≤ 8
  pub bound : m * t < 2 ^ 32
  pub room : m * t + m ≤ 8 * length words

-- A symbol's bits written into packed words in which they are 0.

-- symbol t, of m bits, ends before the last byte of the words
pub record Puts (t m q : ℕ) (words : List ℕ) : Type 0 where
  pub bits_least : 1 ≤ m
  pub bits_most : m ≤ 8
  pub small : q < 2 ^ m
  pub bound : t < 2 ^ 31
  pub room : m * t / 8 + 1 < length words

-- the bits of symbol q are added to those of symbol t; the others are unchanged
pub record Put (t m q : ℕ) (before after : List ℕ) : Type 0 where
  pub long : length after ≡ length before
  pub here : (x : ℕ) → x / m ≡ t → bit_at after x ≡ bit_xor (bit_at before x) (q / 2 ^ (m - 1 - x % m) % 2)
  pub others : (x : ℕ) → (x / m ≡ t → ⊥) → bit_at after x ≡ bit_at before x
