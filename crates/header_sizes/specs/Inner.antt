-- Fields that have passed questions 2 to 7, which every function here requires. Those that count copies also require a factor of at most 32, which
-- question 20 ensures.
use Rattle.std.specs.Prelude.{◌≡◌, ◌%◌, ◌≤◌, ◌<◌}
use Rattle.header.specs.declared.Fields.{Fields}
use Rattle.header_sizes.specs.Quantities.{symbols_per_word, interleaver_delay}

-- m, N and B are in range: questions 3 and 4
pub record Shaped (f : Fields) : Type 0 where
  pub bits_least : 2 ≤ f.bits
  pub bits_most : f.bits ≤ 8
  pub rows_least : 1 ≤ f.rows
  pub rows_most : f.rows ≤ 128
  pub step_least : 1 ≤ f.step
  pub step_most : f.step ≤ 256

-- all of 2 to 6, and W's range of 7
pub record Valid (f : Fields) : Type 0 where
  pub rate : f.rate < 3
  pub shaped : Shaped f
  pub whole : interleaver_delay f % symbols_per_word f ≡ 0
  pub size_least : 1 ≤ f.size
  pub size_most : f.size ≤ 2048
  pub frames_least : 1 ≤ f.frames
  pub frames_most : f.frames ≤ 64
  pub markers_least : 1 ≤ f.markers
  pub markers_most : f.markers ≤ 32
