-- What the reader and the writer require of their slices.
use Rattle.std.specs.Prelude.{◌≡◌, List, ℕ, ◌*◌, ◌≤◌, length}

-- frames and slots of `count` codeblocks
pub record Framed (count : ℕ) (frames : List ℕ) : Type 0 where
  pub long : length frames ≡ 8 * count
  pub most : count ≤ 64

pub record Slotted (count : ℕ) (slots : List ℕ) : Type 0 where
  pub long : length slots ≡ 64 * count
  pub most : count ≤ 64
