-- Each refusal of questions 2 and 8, from its question.
use mathlib.Core.Path.{◌≡◌, refl}
use mathlib.Core.Bool.{false}
use mathlib.Core.List.{List}
use Prim.Native.Nat.{ℕ, ◌≤◌, ◌<◌}
use lib.ListN.{length}
use borrow.Author.Tests.{lt-ltb, le-ltb}
use Rattle.answers.specs.Answer.{No}
use Rattle.sizes.specs.Sizes.{block_bytes}
use Rattle.pass.specs.Pass.{blocks_in, words_in, pass_lengths_right, pass_write_says, pass_read_says}

module _ (rate : ℕ) (blocks : List ℕ) (m : ℕ) where
  pub write_rate : 3 ≤ rate → pass_write_says rate blocks m ≡ No 2 0
  unfolding pass_write_says
  write_rate h = rw (le-ltb rate 3 h) refl

  pub write_lengths : rate < 3 → pass_lengths_right (blocks_in rate blocks) (block_bytes rate) (length blocks) m ≡ false → pass_write_says rate blocks m ≡ No 8 0
  unfolding pass_write_says
  write_lengths h e = rw (lt-ltb rate 3 h, e) refl

module _ (rate : ℕ) (words : List ℕ) (m : ℕ) where
  pub read_rate : 3 ≤ rate → pass_read_says rate words m ≡ No 2 0
  unfolding pass_read_says
  read_rate h = rw (le-ltb rate 3 h) refl

  pub read_lengths : rate < 3 → pass_lengths_right (words_in words) (block_bytes rate) m (length words) ≡ false → pass_read_says rate words m ≡ No 8 0
  unfolding pass_read_says
  read_lengths h e = rw (lt-ltb rate 3 h, e) refl
