-- Eight rows of w bytes, in which rows and bits change places: bit d of row t becomes bit t of row d. First the fours change places, the upper
-- four bits of the upper rows with the lower four of the lower rows, then the twos within these, then the ones.
use Rattle.std.specs.Prelude.{◌≡◌, List, ℕ, ◌+◌, ◌-◌, ◌*◌, ◌/◌, ◌%◌, ◌<◌, ◌^◌, ◌≤◌, length, get_or}
use Rattle.std.specs.Int.Bits.{bit_and, bit_or}

-- bit d of byte i in row t, the bits counted from the lowest
abbrev pub cell : ℕ → List ℕ → ℕ → ℕ → ℕ → ℕ
cell w s t d i = get_or s (w * t + i) 0 / 2 ^ d % 2

pub record Transposed (w : ℕ) (before after : List ℕ) : Type 0 where
  pub long : length after ≡ length before
  pub small : (k : ℕ) → get_or after k 0 < 256
  pub cells : (t d i : ℕ) → t < 8 → d < 8 → i < w → cell w after t d i ≡ cell w before d t i
  pub rest : (k : ℕ) → 8 * w ≤ k → get_or after k 0 ≡ get_or before k 0

-- m has those of the eight bits whose place, counted in steps of e, is even
pub record Mask (e m : ℕ) : Type 0 where
  pub some : 1 ≤ e
  pub few : e < 8
  pub even : (d : ℕ) → d < 8 → m / 2 ^ d % 2 ≡ 1 - d / e % 2
  pub odd : (d : ℕ) → d < 8 → m * 2 ^ e % 2 ^ 8 / 2 ^ d % 2 ≡ d / e % 2

-- what becomes of two bytes whose bits change places so
unfoldable pub low_of : ℕ → ℕ → ℕ → ℕ → ℕ
low_of e m a b = bit_or (bit_and a m) (bit_and b m * 2 ^ e % 2 ^ 8)

unfoldable pub high_of : ℕ → ℕ → ℕ → ℕ → ℕ
high_of e m a b = bit_or (bit_and (a / 2 ^ e) m) (bit_and b (m * 2 ^ e % 2 ^ 8))

-- n bytes from `at` on have done so with those d bytes further on; all others are unchanged
pub record Exchanged (e m d at n : ℕ) (before after : List ℕ) : Type 0 where
  pub long : length after ≡ length before
  pub low : (y : ℕ) → at ≤ y → y < at + n → get_or after y 0 ≡ low_of e m (get_or before y 0) (get_or before (y + d) 0)
  pub high : (y : ℕ) → at ≤ y → y < at + n → get_or after (y + d) 0 ≡ high_of e m (get_or before y 0) (get_or before (y + d) 0)
  pub other : (y : ℕ) → (at ≤ y → y < at + n → ⊥) → (at + d ≤ y → y < at + d + n → ⊥) → get_or after y 0 ≡ get_or before y 0

-- the row of a bit where places of e rows and e bits change: an odd place of e becomes the even one before it, and the other way round
abbrev pub swap_from : ℕ → ℕ → ℕ → ℕ
swap_from e t d = t - e * (t / e % 2) + e * (d / e % 2)

-- the first 2 e n rows have done so
pub record Stage (w e n : ℕ) (before after : List ℕ) : Type 0 where
  pub long : length after ≡ length before
  pub done : (t d i : ℕ) → t / e < 2 * n → d < 8 → i < w → cell w after t d i ≡ cell w before (swap_from e t d) (swap_from e d t) i
  pub rest : (t i : ℕ) → 2 * n ≤ t / e → i < w → get_or after (w * t + i) 0 ≡ get_or before (w * t + i) 0
