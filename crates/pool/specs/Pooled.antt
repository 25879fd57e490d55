-- Question 10 for symbols that are sent several times in a row: sent group s·k + c is copy c of symbol s, of k, and b holds the slots. Pulses are
-- counted slot by slot over the copies, guard slots too. The symbol is the slot with more of them than any other, if that is among the first M.
-- One pulse in one copy is enough where no other slot has any; two slots with equally many make no symbol, nor does none at all.
use Rattle.std.specs.Prelude.{Bool, true, not, List, ℕ, ◌+◌, ◌*◌, ltb, eqb}
use Rattle.bits.specs.Basics.{pick, up_to}
use Rattle.bits.specs.Pack.{bit_at}
use Rattle.bits.specs.Count.{weight}

-- the pulses in slot r of the copies of symbol s
unfoldable pub count : List ℕ → ℕ → ℕ → ℕ → ℕ → ℕ
count b copies group s r = weight (λ c. bit_at b ((s * copies + c) * group + r)) copies

-- f q is larger than every other of the n values of f
unfoldable pub beats : (ℕ → ℕ) → ℕ → ℕ → Bool
beats f n q = eqb (up_to (λ r. pick (eqb r q) true (ltb (f r) (f q))) 0 n) n

-- the number below n whose value beats the others, or n
unfoldable pub peak : (ℕ → ℕ) → ℕ → ℕ
peak f n = up_to (λ q. not (beats f n q)) 0 n

-- symbol s, or M where its copies decide on none
unfoldable pub pooled : List ℕ → ℕ → ℕ → ℕ → ℕ → ℕ
pooled b copies group order s =
    let q : ℕ = peak (count b copies group s) group in
    pick (ltb q order) q order

-- question 10: do the copies of symbol s decide on one? And the first of n whose copies do not
abbrev pub decided : List ℕ → ℕ → ℕ → ℕ → ℕ → Bool
decided b copies group order s = ltb (pooled b copies group order s) order

unfoldable pub first_undecided : List ℕ → ℕ → ℕ → ℕ → ℕ → ℕ
first_undecided b copies group order n = up_to (decided b copies group order) 0 n
