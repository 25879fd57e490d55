-- What reading words back to back requires of its arguments.
use Rattle.std.specs.Prelude.{◌≡◌, List, ℕ, ◌+◌, ◌*◌, ◌≤◌, ◌<◌, length}
use Rattle.sizes.specs.Sizes.{block_bytes, word_bytes}
use Rattle.pass.specs.Pass.{pass_most}

-- word j of words back to back, and a block
pub record ReadsWord (rate : ℕ) (words : List ℕ) (j : ℕ) (block : List ℕ) : Type 0 where
  pub rate_is : rate < 3
  pub inside : j * word_bytes + word_bytes ≤ length words
  pub block_is : length block ≡ block_bytes rate

-- n words, perhaps followed by more, and room for their blocks
pub record ReadsWords (rate n : ℕ) (words blocks : List ℕ) : Type 0 where
  pub rate_is : rate < 3
  pub few : n ≤ pass_most
  pub words_fit : n * word_bytes ≤ length words
  pub blocks_fit : n * block_bytes rate ≤ length blocks
