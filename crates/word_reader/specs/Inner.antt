-- What the functions inside the word reader require of their slices.
use Rattle.std.specs.Prelude.{◌≡◌, List, ℕ, ◌*◌, ◌<◌, length}
use Rattle.sizes.specs.Inner.{input_bits}
use Rattle.sizes.specs.Sizes.{block_bytes, word_bits, word_bytes}
use Rattle.convolution.specs.Inner.{Decodes}

-- steps 6 and 5 undone: a word, a buffer for it with step 6 undone, and the coded bits
pub record Undoes (word work coded : List ℕ) : Type 0 where
  pub word_is : length word ≡ word_bytes
  pub work_is : length work ≡ word_bytes
  pub coded_is : length coded ≡ word_bits

-- reading from coded bits: these, a buffer for the input bits, and the block
pub record Reads (rate : ℕ) (coded input block : List ℕ) : Type 0 where
  pub decodes : Decodes rate coded input
  pub block_is : length block ≡ block_bytes rate

-- step 7 undone: the input bits, and the block
pub record Gives (rate : ℕ) (input block : List ℕ) : Type 0 where
  pub rate_is : rate < 3
  pub input_is : 8 * length input ≡ input_bits rate
  pub block_is : length block ≡ block_bytes rate

-- a word and a block of the lengths that the rate implies
pub record Words (rate : ℕ) (word block : List ℕ) : Type 0 where
  pub rate_is : rate < 3
  pub word_is : length word ≡ word_bytes
  pub block_is : length block ≡ block_bytes rate
