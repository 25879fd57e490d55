-- The randomizer, a byte at a time: each byte of the sequence is added to a byte of the block.
use Rattle.std.specs.Prelude.{◌≡◌, List, ℕ, ◌+◌, ◌*◌, ◌≤◌, ◌<◌, length, get_or}
use Rattle.bits.specs.Pack.{val, bit_at}
use Rattle.randomizer.specs.Randomizer.{randomize}

-- ys is xs with the sequence added to the bytes from `start` up to `end`
pub record Added (xs ys : List ℕ) (start end : ℕ) : Type 0 where
  pub size : length ys ≡ length xs
  pub inside : (k : ℕ) → start ≤ k → k < end → get_or ys k 0 ≡ val (λ t. randomize (bit_at xs) (8 * k + t)) 8
  pub before : (k : ℕ) → k < start → get_or ys k 0 ≡ get_or xs k 0
  pub behind : (k : ℕ) → end ≤ k → get_or ys k 0 ≡ get_or xs k 0
