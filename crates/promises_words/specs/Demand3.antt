-- Demand 3: sums, distances and flips, of any blocks, and so of those that the word writer accepts.
--
-- An information block is the k bits of a packed block (`info_bits`); bit i of packed bytes is `bit_at`, the first bit of a byte highest. The coded
-- bits taken back out of a word are `coded_in`. The numbers are in the statements themselves.
use Rattle.std.specs.Prelude.{◌≡◌, Bool, true, List, ◌⊎◌, ℕ, ◌+◌, ◌≤◌, ◌<◌}
use Rattle.std.specs.Int.Bits.{bit_xor}
use Rattle.bits.specs.Basics.{bool}
use Rattle.bits.specs.Pack.{bit_at, bytes_of, plus}
use Rattle.bits.specs.Count.{differences}
use Rattle.answers.specs.Answer.{Done, number_of}
use Rattle.sizes.specs.Sizes.{info_bits, block_bytes, word_bytes}
use Rattle.word.specs.Word.{word_of, coded_in, word_write_says, word_read_says}

-- "For every three information blocks of one rate, and the fourth that is their bitwise sum: the word written for the fourth is the bitwise sum of
-- the words written for the three." The fourth, d, is any block whose k bits are the sums; the spare bits of all four are free. `plus` adds two lists
-- of bytes bit by bit.
abbrev pub Sums : Type 0
Sums =
    (rate : ℕ) (a b c d : List ℕ)
    → ((i : ℕ) → i < info_bits rate → bit_at d i ≡ bit_xor (bit_xor (bit_at a i) (bit_at b i)) (bit_at c i))
    → word_of rate d ≡ plus (plus (word_of rate a) (word_of rate b)) (word_of rate c)

-- Of three blocks that the writer accepts, the sum byte by byte is such a fourth, and is accepted.
abbrev pub SumBlock : Type 0
SumBlock =
    (rate : ℕ) (a b c : List ℕ) → word_write_says rate a word_bytes ≡ Done → word_write_says rate b word_bytes ≡ Done → word_write_says rate c word_bytes ≡ Done
    → (word_write_says rate (plus (plus a b) c) word_bytes ≡ Done)
    × ((i : ℕ) → bit_at (plus (plus a b) c) i ≡ bit_xor (bit_xor (bit_at a i) (bit_at b i)) (bit_at c i))

-- in how many of the 15,120 places the coded bits taken back out of the words of two blocks differ
abbrev pub apart : ℕ → List ℕ → List ℕ → ℕ
apart rate a b = differences (coded_in (word_of rate a)) (coded_in (word_of rate b)) 15120

-- "For every two blocks of one rate that differ: the coded bits taken back out of their words differ in at least 8 of the 15,120 places at rate
-- 1/3, 5 at 1/2 and 3 at 2/3." They differ in bit i of the k.
abbrev pub Distances : Type 0
Distances =
    (rate : ℕ) (a b : List ℕ) (i : ℕ) → i < info_bits rate → (bit_at a i ≡ bit_at b i → ⊥)
    → (rate ≡ 0 → 8 ≤ apart rate a b) × (rate ≡ 1 → 5 ≤ apart rate a b) × (rate ≡ 2 → 3 ≤ apart rate a b)

-- More than was asked: the customer's figures are not the limits. Of the same blocks, the coded bits differ in at least twice as many of the 15,120
-- places: 16 at rate 1/3, 10 at 1/2 and 6 at 2/3.
abbrev pub DistancesTwice : Type 0
DistancesTwice =
    (rate : ℕ) (a b : List ℕ) (i : ℕ) → i < info_bits rate → (bit_at a i ≡ bit_at b i → ⊥)
    → (rate ≡ 0 → 16 ≤ apart rate a b) × (rate ≡ 1 → 10 ≤ apart rate a b) × (rate ≡ 2 → 6 ≤ apart rate a b)

-- a word with the bits of a set flipped
unfoldable pub flipped : (ℕ → Bool) → List ℕ → List ℕ
flipped flips word = bytes_of word_bytes (λ j. bit_xor (bit_at word j) (bool (flips j)))

-- "For every written word of every rate, whichever one or more of its bits are flipped, all within 18 consecutive bits: read at its own rate, it is
-- refused before the reader comes to the check field." That is 13 or 14, or 8 where the slice lent for the block has another length. Bit i is one
-- that is flipped, and the 18 begin with bit `start`.
abbrev pub FlipsFound : Type 0
FlipsFound =
    (rate : ℕ) (block : List ℕ) → rate < 3
    → (flips : ℕ → Bool) (start : ℕ) → ((j : ℕ) → j < 15120 → flips j ≡ true → (start ≤ j) × (j < start + 18))
    → (i : ℕ) → i < 15120 → flips i ≡ true
    → (n : ℕ)
    → (n ≡ block_bytes rate
    → (number_of (word_read_says rate (flipped flips (word_of rate block)) n) ≡ 13) ⊎ (number_of (word_read_says rate (flipped flips (word_of rate block)) n) ≡ 14))
    × ((n ≡ block_bytes rate → ⊥) → number_of (word_read_says rate (flipped flips (word_of rate block)) n) ≡ 8)

-- ---- what is promised, all of it: the contract of `demand_3`
pub record Demand3 : Type 0 where
  pub sums : Sums
  pub sum_block : SumBlock
  pub distances : Distances
  pub distances_twice : DistancesTwice
  pub flips_found : FlipsFound
