-- Calls of all missions, one after another, and what one of the missions sees of them.
use Rattle.std.specs.Prelude.{Bool, ◌||◌, List, [], ◌∷◌, ℕ, ltb, eqb}
use Rattle.bits.specs.Basics.{pick, both}
use Rattle.rack.specs.Rack.{entry_at, lent_to, Call, after_call, Told, told_of}

-- the area after all calls
unfoldable pub after_all : List ℕ → List Call → List ℕ
after_all area [] = area
after_all area (call ∷ calls) = after_all (after_call area call) calls

-- what mission m is told, call by call
unfoldable pub heard : ℕ → List ℕ → List Call → List Told
heard m area [] = []
heard m area (call ∷ calls) = pick (eqb call.caller m) (told_of area call ∷ heard m (after_call area call) calls) (heard m (after_call area call) calls)

-- whether place p of mission o is lent to m; and whether it is so at some time, before, between or after the calls
unfoldable pub lent : ℕ → List ℕ → ℕ → ℕ → Bool
lent m area o p = both (both (ltb o 4) (ltb p 4)) (lent_to m (entry_at area o p))

unfoldable pub ever_lent : ℕ → List ℕ → List Call → ℕ → ℕ → Bool
ever_lent m area [] o p = lent m area o p
ever_lent m area (call ∷ calls) o p = lent m area o p || ever_lent m (after_call area call) calls o p

-- the calls of m itself, and the owners' calls to places of a set
unfoldable pub concerns : ℕ → (ℕ → ℕ → Bool) → Call → Bool
concerns m places call = eqb call.caller m || both (eqb call.caller call.owner) (places call.owner call.place)

unfoldable pub kept : ℕ → (ℕ → ℕ → Bool) → List Call → List Call
kept m places [] = []
kept m places (call ∷ calls) = pick (concerns m places call) (call ∷ kept m places calls) (kept m places calls)
