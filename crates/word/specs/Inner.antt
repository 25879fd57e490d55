-- What an acceptance by the word writer says.
use Rattle.std.specs.Prelude.{◌≡◌, List, ℕ, ◌<◌, length}
use Rattle.sizes.specs.Sizes.{block_bytes, word_bytes}

-- an acceptance says that each question was answered yes
pub record WriteAccepted (rate : ℕ) (block : List ℕ) (n : ℕ) : Type 0 where
  pub rate_is : rate < 3
  pub block_is : length block ≡ block_bytes rate
  pub word_is : n ≡ word_bytes
