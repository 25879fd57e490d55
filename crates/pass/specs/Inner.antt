-- What the functions inside the writer and the reader require of a pass.
use Rattle.std.specs.Prelude.{◌≡◌, List, ℕ, ◌*◌, ◌≤◌, ◌<◌, length}
use Rattle.sizes.specs.Sizes.{block_bytes, word_bytes}
use Rattle.pass.specs.Pass.{pass_most}

-- n blocks and n words, back to back
pub record Lent (rate n : ℕ) (blocks words : List ℕ) : Type 0 where
  pub rate_is : rate < 3
  pub few : n ≤ pass_most
  pub blocks_are : length blocks ≡ n * block_bytes rate
  pub words_are : length words ≡ n * word_bytes
