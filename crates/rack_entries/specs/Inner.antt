-- What the private functions require and ensure.
use Rattle.std.specs.Prelude.{◌≡◌, List, ℕ, ◌+◌, ◌≤◌, ◌<◌, length, get_or}

-- place p of mission o is one of the rack
pub record OwnedPlace (o p : ℕ) : Type 0 where
  pub owner : o < 4
  pub place : p < 4

-- the first n bytes of `from` have been copied to `at`; all others are unchanged
pub record Written (before : List ℕ) (at : ℕ) (from : List ℕ) (n : ℕ) (after : List ℕ) : Type 0 where
  pub long : length after ≡ length before
  pub here : (k : ℕ) → k < n → get_or after (at + k) 0 ≡ get_or from k 0
  pub below : (i : ℕ) → i < at → get_or after i 0 ≡ get_or before i 0
  pub above : (i : ℕ) → at + n ≤ i → get_or after i 0 ≡ get_or before i 0
