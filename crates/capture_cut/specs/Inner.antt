-- What the private functions require.
use Rattle.std.specs.Prelude.{◌≡◌, List, ℕ, ◌+◌, ◌*◌, ◌/◌, ◌≤◌, length}
use Rattle.capture_search.specs.Search.{capture_most}

-- `count` slots are in the capture from slot s on, and n bytes hold them
pub record Lies (b : List ℕ) (s count n : ℕ) : Type 0 where
  pub most : length b ≤ capture_most
  pub some : 1 ≤ count
  pub inside : s + count ≤ 8 * length b
  pub room : n ≡ (count + 7) / 8
