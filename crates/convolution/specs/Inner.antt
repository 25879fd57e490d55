-- What the functions on input bits and coded bits require of their callers.
use Rattle.std.specs.Prelude.{◌≡◌, List, ℕ, ◌*◌, ◌<◌, ◌+◌, ◌-◌, ◌/◌, ◌%◌, ◌^◌, length, get_or, ltb}
use Rattle.sizes.specs.Inner.{input_bits}
use Rattle.sizes.specs.Sizes.{word_bits}
use Rattle.bits.specs.Basics.{pick}
use Rattle.bits.specs.Pack.{bit_at}
use Rattle.convolution.specs.Code.{terminated, encode}

-- the input bits at a rate, packed, and a buffer for their coded bits
pub record Encodes (rate : ℕ) (input coded : List ℕ) : Type 0 where
  pub rate_ok : rate < 3
  pub input_size : 8 * length input ≡ input_bits rate
  pub coded_size : length coded ≡ word_bits

-- coded bits, and room for the input bits at a rate, packed
pub record Decodes (rate : ℕ) (coded input : List ℕ) : Type 0 where
  pub rate_ok : rate < 3
  pub coded_size : length coded ≡ word_bits
  pub coded_bits : (j : ℕ) → get_or coded j 0 < 2
  pub input_size : 8 * length input ≡ input_bits rate

-- the input bits make all coded bits
abbrev pub Made : ℕ → List ℕ → List ℕ → Type 0
Made rate coded input = (j : ℕ) → j < word_bits → get_or coded j 0 ≡ encode rate (bit_at input) j

-- the n places from `at` on hold f 0, f 1, ..; what comes before is unchanged
pub record Put (before : List ℕ) (at n : ℕ) (f : ℕ → ℕ) (after : List ℕ) : Type 0 where
  pub long : length after ≡ length before
  pub earlier : (k : ℕ) → k < at → get_or after k 0 ≡ get_or before k 0
  pub here : (t : ℕ) → t < n → get_or after (at + t) 0 ≡ f t

-- The last input bits: the check of step 2, and the two zeros of step 3.

-- the first k bits unchanged, then a check of 32 bits and two zeros: all bits of these bytes
pub record Ended (before : List ℕ) (check : ℕ) (after : List ℕ) : Type 0 where
  pub long : length after ≡ length before
  pub bits : (k i : ℕ) → k + 34 ≡ 8 * length before → i < 8 * length before
      → bit_at after i ≡ terminated (k + 32) (λ j. pick (ltb j k) (bit_at before j) (check / 2 ^ (31 - (j - k)) % 2)) i
