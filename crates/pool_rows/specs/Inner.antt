-- The copies of a symbol read as numbers of 64 bits: where they are, and what is counted in them.
use Rattle.std.specs.Prelude.{List, ℕ, ◌+◌, ◌*◌, ◌^◌, ◌≤◌, ◌<◌, length}
use Rattle.bits.specs.Pack.{bit_at, bit_of}
use Rattle.bits.specs.Count.{weight}

-- the pulses in slot r of the first c copies of the symbol whose slots begin at y
abbrev pub pulses_at : List ℕ → ℕ → ℕ → ℕ → ℕ → ℕ
pulses_at b group y c r = weight (λ k. bit_at b (y + k * group + r)) c

-- those in slot r, where f says which slots of a copy have one
abbrev pub pulses_of : (ℕ → ℕ → ℕ) → ℕ → ℕ → ℕ
pulses_of f c r = weight (λ k. f k r) c

-- those copies are within b, and at least eight bytes from each of their slots on
pub record Near (group copies : ℕ) (b : List ℕ) (y : ℕ) : Type 0 where
  pub group_least : 1 ≤ group
  pub group_most : group ≤ 40
  pub inside : y + copies * group + 64 ≤ 8 * length b
  pub small : y + copies * group < 2 ^ 36

-- a slot that has pulses is worth 1, and one that has several is worth 3
abbrev pub worth : ℕ → ℕ → ℕ → ℕ
worth any several i = bit_of any i + 2 * bit_of several i

-- the n symbols are so: at least eight bytes follow from each of their slots on
pub record Ahead (group copies : ℕ) (b : List ℕ) (n : ℕ) : Type 0 where
  pub group_most : group ≤ 40
  pub room : n * (copies * group) + 64 ≤ 8 * length b
