-- What writer and reader require of the words and slots that they are given.
use Rattle.std.specs.Prelude.{◌≡◌, List, Bool, ℕ, ◌*◌, ◌≤◌, length}
use Rattle.plan.specs.Inner.{Fine, slot_bytes}
use Rattle.plan.specs.declared.Plan.{Plan}
use Rattle.pool.specs.Pooled as pool
use Rattle.sizes.specs.Sizes.{word_bytes}

-- words enough for the plan
pub record Given (p : Plan) (words : List ℕ) : Type 0 where
  pub fine : Fine p
  pub long : p.layout.words * word_bytes ≤ length words

-- and room for its slots
pub record Lent (p : Plan) (words slots : List ℕ) : Type 0 where
  pub given : Given p words
  pub room : length slots ≡ slot_bytes p

-- slots of the length that the plan implies
pub record RunSlots (p : Plan) (b : List ℕ) : Type 0 where
  pub fine : Fine p
  pub long : length b ≡ slot_bytes p

-- question 10 of symbol s
abbrev pub decided_in : Plan → List ℕ → ℕ → Bool
decided_in p b s = pool.decided b p.copies p.group p.order s
