-- A marker looked for among packed bits: n slots, slot i of which is `marker i`, and a capture b, every bit of which is a slot.
use Rattle.std.specs.Prelude.{Bool, not, List, ℕ, ◌+◌, ◌-◌, ◌*◌, eqb, length}
use Rattle.bits.specs.Basics.{up_to}
use Rattle.bits.specs.Pack.{bit_at}

-- slot i of them is right where they are to begin at slot x
abbrev pub right : (ℕ → ℕ) → List ℕ → ℕ → ℕ → Bool
right marker b x i = eqb (bit_at b (x + i)) (marker i)

-- the first that is wrong, n where none is; and whether all of them stand there
unfoldable pub first_mismatch : (ℕ → ℕ) → ℕ → List ℕ → ℕ → ℕ
first_mismatch marker n b x = up_to (right marker b x) 0 n

unfoldable pub stands : (ℕ → ℕ) → ℕ → List ℕ → ℕ → Bool
stands marker n b x = eqb (first_mismatch marker n b x) n

-- how many slots of the capture can be the first of n
abbrev pub starts : ℕ → List ℕ → ℕ
starts n b = 8 * length b + 1 - n

-- the earliest of these, from a given one on, at which they stand; where there is none, a number that is none of these
abbrev pub missed : (ℕ → ℕ) → ℕ → List ℕ → ℕ → Bool
missed marker n b x = not (stands marker n b x)

unfoldable pub earliest : (ℕ → ℕ) → ℕ → List ℕ → ℕ → ℕ
earliest marker n b from = up_to (missed marker n b) from (starts n b)
