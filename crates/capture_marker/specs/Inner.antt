-- What the functions of the search require and ensure.
use Rattle.std.specs.Prelude.{◌≡◌, List, ℕ, ◌+◌, ◌*◌, ◌≤◌, ◌<◌, length, get_or}
use Rattle.plan.specs.declared.Plan.{Plan}
use Rattle.plan.specs.Inner.{Fine}
use Rattle.capture_search.specs.Search.{marker_slots, capture_most}

-- empty slots, with room for every marker
pub record Room (p : Plan) (slots : List ℕ) : Type 0 where
  pub fine : Fine p
  pub long : length slots ≡ 1288
  pub empty : (k : ℕ) → k < 1288 → get_or slots k 0 ≡ 0

-- a plan, and a capture with `end` starts for the n slots of its marker, of which those from `from` on are tried
pub record Seeks (p : Plan) (b : List ℕ) (n from end : ℕ) : Type 0 where
  pub fine : Fine p
  pub most : length b ≤ capture_most
  pub slots_are : n ≡ marker_slots p
  pub order : from ≤ end
  pub ends : end + n ≡ 8 * length b + 1
