-- What the functions require of their arguments, and what the private ones ensure.
use Rattle.std.specs.Prelude.{◌≡◌, List, ℕ, ◌+◌, ◌*◌, ◌≤◌, ◌<◌, length}
use Rattle.bits.specs.declared.pieces.Position.{Position}
use Rattle.sizes.specs.Sizes.{span, info_bits, block_bytes}

-- `pieces` blocks that hold the frames, perhaps followed by more
pub record Judged (rate pieces size count : ℕ) (blocks : List ℕ) : Type 0 where
  pub rate3 : rate < 3
  pub pieces2 : pieces ≤ 210
  pub room : pieces * block_bytes rate ≤ length blocks
  pub size1 : 1 ≤ size
  pub size2 : size ≤ 2048
  pub count1 : 1 ≤ count
  pub count2 : count ≤ 64
  pub fit : count * span size ≤ pieces * info_bits rate

-- `pieces` blocks are within `blocks`
pub record Blocks (rate pieces : ℕ) (blocks : List ℕ) : Type 0 where
  pub rate3 : rate < 3
  pub pieces2 : pieces ≤ 210
  pub room : pieces * block_bytes rate ≤ length blocks

-- and so are those of the n bits from bit x on
pub record Held (rate : ℕ) (blocks : List ℕ) (x n : ℕ) : Type 0 where
  pub pieces : ℕ
  pub lie : Blocks rate pieces blocks
  pub fit : x + n ≤ pieces * info_bits rate

-- the bit of the joined blocks at a place
abbrev pub bit_of : ℕ → Position → ℕ
bit_of rate at = at.piece * info_bits rate + at.bit

-- the same for the n bits from a place on
pub record HeldAt (rate : ℕ) (blocks : List ℕ) (at : Position) (n : ℕ) : Type 0 where
  pub inside : at.bit < info_bits rate
  pub held : Held rate blocks (bit_of rate at) n

-- n zeros, at most eight, follow in one block from a place of a stream on; n is 0 only where a one is there
pub record Zeros (rate : ℕ) (stream : ℕ → ℕ) (at : Position) (n : ℕ) : Type 0 where
  pub few : n ≤ 8
  pub inside : at.bit + n ≤ info_bits rate
  pub pass : (t : ℕ) → t < n → stream (bit_of rate at + t) ≡ 0
  pub stop : n ≡ 0 → stream (bit_of rate at) ≡ 0 → ⊥
