-- What the functions that pool copies ask of the slots, and the slots in which some copy has a pulse.
use Rattle.std.specs.Prelude.{List, ℕ, ◌+◌, ◌*◌, ◌^◌, ◌≤◌, ◌<◌, length, ltb}
use Rattle.pulses.specs.Inner.{Sizes}
use Rattle.bits.specs.Basics.{bool}
use Rattle.bits.specs.Count.{weight}
use Rattle.pool.specs.Pooled.{count}

-- the copies of n symbols are within b
pub record Sent (order group copies n : ℕ) (b : List ℕ) : Type 0 where
  pub of_group : Sizes order group
  pub copies_most : copies ≤ 32
  pub room : n * copies * group ≤ 8 * length b
  pub bound : n * copies * group < 2 ^ 36

-- the copies of symbol s are within b
pub record Held (group copies : ℕ) (b : List ℕ) (s : ℕ) : Type 0 where
  pub group_least : 2 ≤ group
  pub group_most : group ≤ 320
  pub copies_most : copies ≤ 32
  pub inside : (s * copies + copies) * group ≤ 8 * length b
  pub small : (s * copies + copies) * group < 2 ^ 36

-- and so are eight bytes from each of their slots on
pub record Open (group copies : ℕ) (b : List ℕ) (s : ℕ) : Type 0 where
  pub held : Held group copies b s
  pub behind : (s * copies + copies) * group + 64 ≤ 8 * length b

-- The copies of a symbol joined: which slots have a pulse in one of them.

-- 1 where one of the first n bits is
abbrev pub some : (ℕ → ℕ) → ℕ → ℕ
some f n = bool (ltb 0 (weight f n))

-- 1 where slot r of symbol s has a pulse
unfoldable pub lit : List ℕ → ℕ → ℕ → ℕ → ℕ → ℕ
lit b copies group s r = bool (ltb 0 (count b copies group s r))
