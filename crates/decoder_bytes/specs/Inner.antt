-- Columns turned into rows again: eight rows of bytes are dealt from the columns, and then rows and bits change places.
use Rattle.std.specs.Prelude.{◌≡◌, List, ℕ, ◌*◌, ◌≤◌, ◌<◌, ◌+◌, ◌-◌, ◌/◌, ◌%◌, ◌^◌, length, get_or, eqb}
use Rattle.bits.specs.Basics.{pick}
use Rattle.bits.specs.Pack.{bit_at}
use Rattle.decoder_columns.specs.Inner.{Row}

-- column u of eight that are taken from a and from b in turn, from x on and from y on, s places apart
unfoldable pub source : List ℕ → List ℕ → ℕ → ℕ → ℕ → ℕ → ℕ
source a b x y s u = pick (eqb (u % 2) 0) (get_or a (x + s * (u / 2)) 0) (get_or b (y + s * (u / 2)) 0)

-- eight rows for as many groups as any rate has
abbrev pub room_bytes : ℕ
room_bytes = 1440

-- n groups of eight columns, of which those of group g are taken 4 s g places on. Each group goes 4 s places on, so n of them go over a row: 4 s n is 2,160
pub record Takes (a b : List ℕ) (x y s n : ℕ) : Type 0 where
  pub a_size : Row a
  pub b_size : Row b
  pub all : s * n ≡ 540
  pub some : 3 ≤ s
  pub few : s ≤ 6
  pub x_few : x ≤ 6
  pub y_few : y ≤ 6

-- n bytes, `step` places apart from x on, are at place `at` and after it; all others are as they were
pub record Dealt (from : List ℕ) (x step n at : ℕ) (before after : List ℕ) : Type 0 where
  pub long : length after ≡ length before
  pub here : (g : ℕ) → g < n → get_or after (at + g) 0 ≡ get_or from (x + step * g) 0
  pub other : (k : ℕ) → (at ≤ k → k < at + n → ⊥) → get_or after k 0 ≡ get_or before k 0

-- the first k of the eight columns of each group as rows, from the last row on
abbrev pub Stacked : List ℕ → List ℕ → ℕ → ℕ → ℕ → ℕ → ℕ → List ℕ → Type 0
Stacked a b x y s n k room =
    (u g : ℕ) → u < k → g < n → get_or room (n * (7 - u) + g) 0 ≡ source a b (x + 4 * (s * g)) (y + 4 * (s * g)) s u

-- the groups of each row r as bytes: their bits are the columns' bits of that row
abbrev pub Taken : List ℕ → List ℕ → ℕ → ℕ → ℕ → ℕ → List ℕ → Type 0
Taken a b x y s n out =
    (g r u : ℕ) → g < n → r < 7 → u < 8 → bit_at out (8 * (g + n * r) + u) ≡ source a b (x + 4 * (s * g)) (y + 4 * (s * g)) s u / 2 ^ r % 2
