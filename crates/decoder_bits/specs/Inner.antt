-- What the loops of the slow way ask of the coded bits.
use Rattle.std.specs.Prelude.{◌≡◌, List, ℕ, ◌*◌, ◌≤◌, length, get_or, eqb, Bool}
use Rattle.sizes.specs.Sizes.{word_bits}

-- coded bits with a second output every `step` places, and room for the n input bits
pub record Steps (step n : ℕ) (coded input : List ℕ) : Type 0 where
  pub low : 2 ≤ step
  pub high : step ≤ 3
  pub all : step * n ≡ word_bits
  pub coded_size : length coded ≡ word_bits
  pub input_size : length input ≡ n

-- coded bits with two second outputs in a row
pub record Pairs (coded input : List ℕ) : Type 0 where
  pub coded_size : length coded ≡ word_bits
  pub input_size : length input ≡ 10080

-- Comparing two lists of coded bits.

-- place j holds the same in both
abbrev pub same_at : List ℕ → List ℕ → ℕ → Bool
same_at made coded j = eqb (get_or coded j 0) (get_or made j 0)

pub record Both (made coded : List ℕ) : Type 0 where
  pub made_size : length made ≡ word_bits
  pub coded_size : length coded ≡ word_bits
