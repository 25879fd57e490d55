-- A piece of text written into a line.
use Rattle.std.specs.Prelude.{◌≡◌, List, ◌++◌, ℕ, ◌+◌, length, take}

-- a piece of text was written at `at`, and ends before `next`; what comes before it is unchanged
pub record Put (before : List ℕ) (at : ℕ) (piece after : List ℕ) (next : ℕ) : Type 0 where
  pub next_is : next ≡ at + length piece
  pub text : take next after ≡ take at before ++ piece
