-- The pulses of symbols: a symbol q below M is `group` slots, M and then M/4 guard slots, with one pulse, at slot q. And back, with questions 9 and 10 of slots b.
use Rattle.std.specs.Prelude.{Bool, List, ℕ, ◌+◌, ◌-◌, ◌*◌, ◌/◌, ◌%◌, ltb, eqb, length}
use Rattle.bits.specs.Basics.{pick, bool, up_to}
use Rattle.bits.specs.Pack.{bytes_of, first_set}

-- the bytes of the slots of n symbols, packed
abbrev pub bytes_for : ℕ → ℕ → ℕ
bytes_for group n = (n * group + 7) / 8

-- slot x: a pulse where its place in its group is the group's symbol; none after the last group
unfoldable pub slot_bit : ℕ → ℕ → (ℕ → ℕ) → ℕ → ℕ
slot_bit group n symbol x = pick (ltb (x / group) n) (bool (eqb (x % group) (symbol (x / group)))) 0

unfoldable pub slots_of : ℕ → ℕ → (ℕ → ℕ) → List ℕ
slots_of group n symbol = bytes_of (bytes_for group n) (slot_bit group n symbol)

-- question 9: are the spare bits after the last slot empty?
unfoldable pub spare_empty : ℕ → ℕ → List ℕ → Bool
spare_empty group n b = eqb (first_set b (n * group) (8 * length b)) (8 * length b)

-- the symbol of group s: the place of its only pulse, if that is among the first M slots; otherwise M
unfoldable pub symbol_in : ℕ → ℕ → List ℕ → ℕ → ℕ
symbol_in order group b s =
    let x : ℕ = s * group in
    let q : ℕ = first_set b x (x + group) in
    pick (ltb q (x + order)) (pick (eqb (first_set b (q + 1) (x + group)) (x + group)) (q - x) order) order

-- question 10: has the group exactly one pulse, among its first M slots? And the first of n that has not
abbrev pub grouped : ℕ → ℕ → List ℕ → ℕ → Bool
grouped order group b s = ltb (symbol_in order group b s) order

unfoldable pub first_bad_group : ℕ → ℕ → ℕ → List ℕ → ℕ
first_bad_group order group n b = up_to (grouped order group b) 0 n
