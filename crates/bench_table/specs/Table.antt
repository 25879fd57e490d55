-- The bench table: for each of its fourteen rows what the definitions compute, and what the table lists. One statement says that they are the same.
-- Bits are written as binary numbers, the first highest; bits and places count from 0.
use Rattle.std.specs.Prelude.{◌≡◌, List, [], ◌∷◌, map, ℕ, ◌+◌, ◌/◌, ◌^◌, get_or, length, replicate}
use Rattle.bits.specs.Pack.{val, piece}
use Rattle.sizes.specs.Sizes.{word_bytes}
use Rattle.crc.specs.Check.{register}
use Rattle.convolution.specs.Code.{encode}
use Rattle.interleaver.specs.Interleaver.{source_bit}
use Rattle.accumulator.specs.Accumulator.{accumulate}
use Rattle.randomizer.specs.Randomizer.{sequence}
use Rattle.plan.specs.declared.Plan.{Plan}
use Rattle.slots.specs.Writing.{data_symbol, run_slot}

pub record Row : Type 0 where
  pub computed : ℕ
  pub listed : ℕ

abbrev row : ℕ → ℕ → Row
row a b = record { computed = a; listed = b }

-- the bits of a list, followed by zeros
abbrev these : List ℕ → ℕ → ℕ
these xs i = get_or xs i 0

-- a run of one word at m bits to a symbol, not spread (N = 1), with one marker symbol, each symbol sent so many times
abbrev pub plan : ℕ → ℕ → ℕ → Plan
plan copies m mark = record {
  copies = copies;
  bits = m;
  order = 2 ^ m;
  group = 2 ^ m + 2 ^ m / 4;
  layout = record { rows = 1; step = 1; symbols = 15120 / m; words = 1; markers = 1; lines = 1 };
  marks = mark ∷ replicate 31 0;
}

-- its word: this byte, followed by zeros
abbrev pub packed : ℕ → List ℕ
packed b = b ∷ replicate 1889 0

abbrev pub table : List Row
table =
    -- step 7, which comes before step 2: the start of the randomizer's sequence, and its bit 255
    row (val sequence 40) 0b1111_1111_0100_1000_0000_1110_1100_0000_1001_1010
    ∷ row (sequence 255) 1
    -- step 5: the coded bit that output place j takes
    ∷ row (source_bit 1) 221
    ∷ row (source_bit 2) 862
    ∷ row (source_bit 36) 396
    ∷ row (source_bit 15119) 199
    -- step 2: the check register after a single 0, and after a single 1
    ∷ row (register (these (0 ∷ [])) 1) 0xDFFBBFF7
    ∷ row (register (these (1 ∷ [])) 1) 0xFFFFFFFE
    -- step 4: the coded bits of 1, 0, 0 at each rate
    ∷ row (val (encode 0 (these (1 ∷ 0 ∷ 0 ∷ []))) 9) 0b111_011_111
    ∷ row (val (encode 1 (these (1 ∷ 0 ∷ 0 ∷ []))) 6) 0b11_01_11
    ∷ row (val (encode 2 (these (1 ∷ 0 ∷ 0 ∷ []))) 5) 0b11_1_11
    -- step 6: the accumulator of 1101
    ∷ row (val (accumulate (these (1 ∷ 1 ∷ 0 ∷ 1 ∷ []))) 4) 0b1001
    -- step 8, after step 6: the symbol that bits 1101 are at m = 4
    ∷ row (data_symbol (plan 1 4 0) (piece word_bytes (packed 0b1101_0000)) 0) 13
    -- step 10: the slots of symbol 2 at M = 4, its guard slot last; it is the marker symbol, so that they are the run's first
    ∷ row (val (run_slot (plan 1 2 2) (piece word_bytes (packed 0))) (plan 1 2 2).group) 0b0010_0
    ∷ []

-- fourteen rows
abbrev pub Rows : Type 0
Rows = length table ≡ 14

-- and in each what the definitions compute is what the table lists
abbrev pub Bench : Type 0
Bench = map (λ r. r.computed) table ≡ map (λ r. r.listed) table

-- beside the table: the same symbol, sent twice
abbrev pub SentTwice : Type 0
SentTwice = val (run_slot (plan 2 2 2) (piece word_bytes (packed 0))) 10 ≡ 0b0010_0_0010_0

-- ---- all of it: the contract of `bench_table`
pub record BenchTable : Type 0 where
  pub rows : Rows
  pub bench : Bench
  pub sent_twice : SentTwice
