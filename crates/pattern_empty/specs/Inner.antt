-- Slots that can be looked at.
use Rattle.std.specs.Prelude.{List, ℕ, ◌*◌, ◌≤◌, length}

-- slots x to `end` can be
pub record Scans (b : List ℕ) (x end : ℕ) : Type 0 where
  pub eight : 8 ≤ length b
  pub order : x ≤ end
  pub room : end ≤ 8 * length b
