-- Step 7, the randomizer: adds a sequence whose first eight bits are 1, each later bit the sum of those 1, 3, 5 and 8 places before it. It restarts
-- at each block, and comes before step 2.
use Rattle.std.specs.Prelude.{List, ◌∷◌, ℕ, zero, suc, get_or, take, replicate}
use Rattle.std.specs.Int.Bits.{bit_xor}

-- eight bits in a row, the newest first; the sum of those 1, 3, 5 and 8 places before the next joins them, and the oldest leaves
unfoldable pub next : List ℕ → List ℕ
next w = bit_xor (bit_xor (get_or w 0 0) (get_or w 2 0)) (bit_xor (get_or w 4 0) (get_or w 7 0)) ∷ take 7 w

-- the eight bits j .. j + 7 of the sequence
unfoldable pub window : ℕ → List ℕ
window zero = replicate 8 1
window (suc j) = next (window j)

-- bit j of the sequence: the oldest of its window
unfoldable pub sequence : ℕ → ℕ
sequence j = get_or (window j) 7 0

unfoldable pub randomize : (ℕ → ℕ) → ℕ → ℕ
randomize f j = bit_xor (f j) (sequence j)
