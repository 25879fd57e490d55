-- What the functions inside the word writer require of their slices.
use Rattle.std.specs.Prelude.{◌≡◌, List, ℕ, ◌*◌, ◌<◌, length, get_or}
use Rattle.sizes.specs.Inner.{input_bits}
use Rattle.sizes.specs.Sizes.{block_bytes, word_bits, word_bytes}

-- steps 2 and 3: the input bits, of which the first k are there
pub record Checks (rate : ℕ) (input : List ℕ) : Type 0 where
  pub rate_is : rate < 3
  pub input_is : 8 * length input ≡ input_bits rate

-- step 7, and then 2 and 3: a block, and a buffer for its input bits
pub record Inputs (rate : ℕ) (block input : List ℕ) : Type 0 where
  pub rate_is : rate < 3
  pub block_is : length block ≡ block_bytes rate
  pub input_is : 8 * length input ≡ input_bits rate

-- step 7, and then 2 to 4: and the coded word
pub record Codes (rate : ℕ) (block input coded : List ℕ) : Type 0 where
  pub inputs : Inputs rate block input
  pub coded_is : length coded ≡ word_bits

-- steps 5 and 6: the coded bits, and the word
pub record Shuffles (coded word : List ℕ) : Type 0 where
  pub coded_is : length coded ≡ word_bits
  pub bits_are : (i : ℕ) → get_or coded i 0 < 2
  pub word_is : length word ≡ word_bytes
