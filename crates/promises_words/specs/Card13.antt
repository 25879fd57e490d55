-- Card 13. How far one wrong bit spreads: how many coded bits change with one bit of a block, and which.
--
-- An information block is the k bits of a packed block (`info_bits`), and `bit_at` is bit i of packed bytes. `flip_bit` is a block with one bit changed,
-- `coded_of` the 15,120 coded bits that step 4 makes of a block, `coded_in` those taken back out of a word. `spread_of` is what the call
-- `mahyrei_bit_spread` gives, from the rate and the bit's number alone. A block of a rate is any list of as many bytes as the rate implies.
use Rattle.std.specs.Prelude.{◌≡◌, List, ℕ, ◌≤◌, ◌<◌, ltb, eqb, length}
use Rattle.std.specs.Int.Bits.{bit_xor}
use Rattle.bits.specs.Basics.{bool}
use Rattle.bits.specs.Pack.{bit_at, flip_bit}
use Rattle.bits.specs.Count.{differences}
use Rattle.answers.specs.Answer.{Done, No, ask, then}
use Rattle.sizes.specs.Sizes.{info_bits, block_bytes}
use Rattle.word.specs.Word.{coded_of, word_of, coded_in}
use Rattle.spread.specs.Spread.{spread_of, spread_says, places_after}

-- in how many of the 15,120 places two blocks' coded bits differ after step 4, and taken back out of their words
abbrev pub apart_coded : ℕ → List ℕ → List ℕ → ℕ
apart_coded rate a b = differences (coded_of rate a) (coded_of rate b) 15120

abbrev pub apart_out : ℕ → List ℕ → List ℕ → ℕ
apart_out rate a b = differences (coded_in (word_of rate a)) (coded_in (word_of rate b)) 15120

-- "Changing one block bit": it, and no other bit
abbrev pub BitChanged : Type 0
BitChanged =
    (rate : ℕ) (block : List ℕ) (bit : ℕ) → length block ≡ block_bytes rate → bit < info_bits rate
    → (i : ℕ) → bit_at (flip_bit block bit) i ≡ bit_xor (bit_at block i) (bool (eqb i bit))

-- "changes at most 110 coded bits at rate 1/3, 73 at 1/2 and 56 at 2/3, counted after step 4."
abbrev pub Few : Type 0
Few =
    (rate : ℕ) (block : List ℕ) (bit : ℕ) → length block ≡ block_bytes rate → bit < info_bits rate
    → (rate ≡ 0 → apart_coded rate block (flip_bit block bit) ≤ 110)
    × (rate ≡ 1 → apart_coded rate block (flip_bit block bit) ≤ 73)
    × (rate ≡ 2 → apart_coded rate block (flip_bit block bit) ≤ 56)

-- the same of the coded bits taken back out of the two words
abbrev pub FewTakenOut : Type 0
FewTakenOut =
    (rate : ℕ) (block : List ℕ) (bit : ℕ) → length block ≡ block_bytes rate → bit < info_bits rate
    → (rate ≡ 0 → apart_out rate block (flip_bit block bit) ≤ 110)
    × (rate ≡ 1 → apart_out rate block (flip_bit block bit) ≤ 73)
    × (rate ≡ 2 → apart_out rate block (flip_bit block bit) ≤ 56)

-- "Give the changed places too, as 1,890 packed bytes with a 1 at each and at no other, from the rate and the block bit's number alone; by the
-- sum rule the other bits don't matter." So of every block:
abbrev pub PlacesMarked : Type 0
PlacesMarked =
    (rate : ℕ) (block : List ℕ) (bit : ℕ) → length block ≡ block_bytes rate → bit < info_bits rate
    → (j : ℕ) → j < 15120
    → (bit_at (spread_of rate bit) j ≡ 1 → coded_of rate block j ≡ coded_of rate (flip_bit block bit) j → ⊥)
    × ((coded_of rate block j ≡ coded_of rate (flip_bit block bit) j → ⊥) → bit_at (spread_of rate bit) j ≡ 1)

abbrev pub MarkedTakenOut : Type 0
MarkedTakenOut =
    (rate : ℕ) (block : List ℕ) (bit : ℕ) → length block ≡ block_bytes rate → bit < info_bits rate
    → (j : ℕ) → j < 15120
    → (bit_at (spread_of rate bit) j ≡ 1 → coded_in (word_of rate block) j ≡ coded_in (word_of rate (flip_bit block bit)) j → ⊥)
    × ((coded_in (word_of rate block) j ≡ coded_in (word_of rate (flip_bit block bit)) j → ⊥) → bit_at (spread_of rate bit) j ≡ 1)

-- ---- the call

-- its questions: the rate, the length of the places, the bit's number. "Turned away: 27 for a bit number of k or more, put after 8."
abbrev pub SpreadAsks : Type 0
SpreadAsks =
    (rate bit n : ℕ)
    → spread_says rate bit n
    ≡ then (ask (ltb rate 3) 2 0)
    (then (ask (eqb n 1890) 8 0)
    (ask (ltb bit (info_bits rate)) 27 0))

-- an accepted call leaves the marked places in the slice that it was lent
abbrev pub SpreadGiven : Type 0
SpreadGiven =
    (rate bit : ℕ) (old : List ℕ) → spread_says rate bit (length old) ≡ Done → (places_after rate bit old ≡ spread_of rate bit) × (length (spread_of rate bit) ≡ 1890)

-- a refused call leaves it as it was
abbrev pub RefusedSpread : Type 0
RefusedSpread = (rate bit : ℕ) (old : List ℕ) (number place : ℕ) → spread_says rate bit (length old) ≡ No number place → places_after rate bit old ≡ old

-- ---- what is promised, all of it: the contract of `card_13`
pub record Card13 : Type 0 where
  pub bit_changed : BitChanged
  pub few : Few
  pub few_taken_out : FewTakenOut
  pub places_marked : PlacesMarked
  pub marked_taken_out : MarkedTakenOut
  pub spread_asks : SpreadAsks
  pub spread_given : SpreadGiven
  pub refused_spread : RefusedSpread
