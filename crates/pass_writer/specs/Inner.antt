-- What the functions inside the pass writer require of their arguments.
use Rattle.std.specs.Prelude.{◌≡◌, List, ℕ, ◌*◌, ◌≤◌, ◌<◌, length}
use Rattle.sizes.specs.Sizes.{block_bytes, word_bytes}
use Rattle.pass.specs.Pass.{pass_most}

-- block j of n, and a word
pub record Codes (rate n j : ℕ) (blocks word : List ℕ) : Type 0 where
  pub rate_is : rate < 3
  pub few : n ≤ pass_most
  pub below : j < n
  pub blocks_are : length blocks ≡ n * block_bytes rate
  pub word_is : length word ≡ word_bytes
