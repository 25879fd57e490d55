-- How far one wrong bit spreads: the coded bits (step 4) that change with one bit of a block, and the questions that the call asks.
use Rattle.std.specs.Prelude.{List, ℕ, ltb, eqb, length}
use Rattle.std.specs.Int.Bits.{bit_xor}
use Rattle.bits.specs.Pack.{bytes_of, flip_bit}
use Rattle.answers.specs.Answer.{Answer, after, ask, then}
use Rattle.sizes.specs.Sizes.{info_bits, block_bytes, word_bytes}
use Rattle.word.specs.Word.{coded_of}

-- 1 where coded bit j changes with bit b of a block
unfoldable pub changes : ℕ → List ℕ → ℕ → ℕ → ℕ
changes rate block b j = bit_xor (coded_of rate block j) (coded_of rate (flip_bit block b) j)

-- a block of zeros, and the coded bits that change with its bit b, packed. They are the same for every block: `every_block` in proofs/Laws/Spread
unfoldable pub zero_block : ℕ → List ℕ
zero_block rate = bytes_of (block_bytes rate) (λ _. 0)

unfoldable pub spread_of : ℕ → ℕ → List ℕ
spread_of rate b = bytes_of word_bytes (changes rate (zero_block rate) b)

-- the questions: 2, 8 and 27, whether the block has such a bit
unfoldable pub spread_says : ℕ → ℕ → ℕ → Answer
spread_says rate b places_length =
    then (ask (ltb rate 3) 2 0)
    (then (ask (eqb places_length word_bytes) 8 0)
    (ask (ltb b (info_bits rate)) 27 0))

-- what the slice lent for the result holds afterwards: the result on acceptance, otherwise what it held
abbrev pub places_after : ℕ → ℕ → List ℕ → List ℕ
places_after rate bit old = after (spread_says rate bit (length old)) (spread_of rate bit) old
