-- What the functions inside the writer require of their arguments.
use Rattle.std.specs.Prelude.{◌≡◌, List, ℕ, ◌*◌, ◌≤◌, ◌<◌, length}
use Rattle.sizes.specs.Sizes.{word_bytes}
use Rattle.header_sizes.specs.Quantities.{block_count, frame_bytes}
use Rattle.header_sizes.specs.Inner.{Valid}
use Rattle.header.specs.declared.Fields.{Fields}

-- coding word j of frames, with space for a packed block of any rate
pub record Codes (f : Fields) (frames : List ℕ) (j : ℕ) (space word : List ℕ) : Type 0 where
  pub valid : Valid f
  pub frames_are : length frames ≡ frame_bytes f
  pub below : j < block_count f
  pub space_is : length space ≡ 1256
  pub word_is : length word ≡ word_bytes

-- coding all of them
pub record CodesAll (f : Fields) (frames space words : List ℕ) : Type 0 where
  pub valid : Valid f
  pub frames_are : length frames ≡ frame_bytes f
  pub space_is : length space ≡ 1256
  pub words_fit : block_count f * word_bytes ≤ length words
