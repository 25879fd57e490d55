-- What the functions require of their arguments, and what the private ones promise.
use Rattle.std.specs.Prelude.{◌≡◌, List, ℕ, ◌+◌, ◌*◌, ◌^◌, ◌≤◌, ◌<◌, length}
use Rattle.bits.specs.declared.pieces.Position.{Position}
use Rattle.sizes.specs.Sizes.{marker_bits, span}

-- question 6's ranges, and the frames back to back
pub record Frames (size count : ℕ) (frames : List ℕ) : Type 0 where
  pub size1 : 1 ≤ size
  pub size2 : size ≤ 2048
  pub count1 : 1 ≤ count
  pub count2 : count ≤ 64
  pub long : length frames ≡ count * size

-- a place in the stream: the frame, marker and all, and the bit in it
pub record Placed (size : ℕ) (at : Position) : Type 0 where
  pub inside : at.bit < span size
  pub small : at.piece * span size + at.bit + 8 < 2 ^ 32

-- n bytes from a place on, and the byte after them, are in one frame
pub record Together (size count : ℕ) (at : Position) (most n : ℕ) : Type 0 where
  pub few : n ≤ most
  pub frame : 1 ≤ n → at.piece < count
  pub start : 1 ≤ n → marker_bits ≤ at.bit
  pub end : 1 ≤ n → at.bit + 8 * n + 8 ≤ span size
