-- What the functions of the slow way ask: coded bits and room for the input bits.
use Rattle.std.specs.Prelude.{◌≡◌, List, ℕ, ◌<◌, length}
use Rattle.sizes.specs.Inner.{input_bits}
use Rattle.sizes.specs.Sizes.{word_bits}
use Rattle.convolution.specs.Inner.{Decodes}

-- room for the input bits one to a place, alone or with those at any rate
pub record Unpacks (rate : ℕ) (coded bits : List ℕ) : Type 0 where
  pub rate_ok : rate < 3
  pub coded_size : length coded ≡ word_bits
  pub bits_size : length bits ≡ input_bits rate

pub record Packs (rate : ℕ) (coded room input : List ℕ) : Type 0 where
  pub decodes : Decodes rate coded input
  pub room_size : length room ≡ 10080
