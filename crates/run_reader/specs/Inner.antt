-- What the functions inside the reader require of their arguments.
use Rattle.std.specs.Prelude.{◌≡◌, List, ℕ, ◌*◌, ◌≤◌, ◌<◌, length, get_or}
use Rattle.sizes.specs.Sizes.{block_bytes, word_bytes}
use Rattle.header_sizes.specs.Quantities.{block_count, frame_bytes}
use Rattle.header_sizes.specs.Inner.{Valid}
use Rattle.header.specs.declared.Fields.{Fields}
use Rattle.parameters.specs.declared.Parameters.{Parameters}
use Rattle.plan.specs.Inner.{Entered}

-- reading the frames of a call that passed questions 1 to 7, 20 and 8, with a buffer for the words that holds nothing yet
pub record Reads (q : Parameters) (slots words blocks frames : List ℕ) : Type 0 where
  pub entered : Entered q (length frames) (length slots)
  pub words_fit : block_count q.fields * word_bytes < length words
  pub empty : (k : ℕ) → get_or words k 0 ≡ 0
  pub blocks_fit : block_count q.fields * block_bytes q.fields.rate ≤ length blocks

-- the blocks that were read, and the frames
pub record Finishes (f : Fields) (blocks frames : List ℕ) : Type 0 where
  pub valid : Valid f
  pub blocks_fit : block_count f * block_bytes f.rate ≤ length blocks
  pub frames_are : length frames ≡ frame_bytes f
