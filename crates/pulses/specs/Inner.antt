-- What the functions on slots require: pulse orders, groups within the slots, and the forty bytes that zero symbols repeat.
use Rattle.std.specs.Prelude.{◌≡◌, List, ℕ, ◌+◌, ◌-◌, ◌*◌, ◌/◌, ◌^◌, ◌≤◌, ◌<◌, ◌%◌, length, get_or, eqb}
use Rattle.bits.specs.Basics.{bool}
use Rattle.bits.specs.Pack.{bit_at}

-- the pulse orders that there are
pub record Order (order group : ℕ) : Type 0 where
  pub bits : ℕ
  pub bits_least : 2 ≤ bits
  pub bits_most : bits ≤ 8
  pub order_is : order ≡ 2 ^ bits
  pub group_is : group ≡ order + order / 4

-- n groups of slots are within b
pub record Slots (order group n : ℕ) (b : List ℕ) : Type 0 where
  pub shape : Order order group
  pub room : n * group ≤ 8 * length b
  pub bound : n * group < 2 ^ 31

-- of the n forties of bytes in b, those from the c-th on, beside forty bytes given
pub record Forties (b given : List ℕ) (c n : ℕ) : Type 0 where
  pub order : c ≤ n
  pub room : 40 * n ≤ length b
  pub long : length given ≡ 40

-- ---- the sizes that follow

pub record Sizes (order group : ℕ) : Type 0 where
  pub order_least : 4 ≤ order
  pub order_most : order ≤ 256
  pub group_least : order ≤ group
  pub group_most : group ≤ 320

-- group s is within b
pub record Held (order group : ℕ) (b : List ℕ) (s : ℕ) : Type 0 where
  pub of_group : Sizes order group
  pub inside : s * group + group ≤ 8 * length b
  pub small : s * group + group < 2 ^ 31

-- ---- groups as numbers

-- group s has at most 40 slots, and eight bytes from its first on
pub record Near (order group : ℕ) (b : List ℕ) (s : ℕ) : Type 0 where
  pub order_least : 1 ≤ order
  pub group_least : order ≤ group
  pub group_most : group ≤ 40
  pub inside : s * group + 64 ≤ 8 * length b
  pub small : s * group < 2 ^ 31

-- group s fills whole bytes: M slots that are whole numbers of 64 bits, and up to 64 guard slots
pub record Far (order group : ℕ) (b : List ℕ) (s : ℕ) : Type 0 where
  pub numbers : order ≡ 64 * (order / 64)
  pub numbers_least : 1 ≤ order / 64
  pub numbers_most : order / 64 ≤ 4
  pub bytes : group ≡ 8 * (group / 8)
  pub guard_least : order < group
  pub guard_most : group ≤ order + 64
  pub inside : s * group + group ≤ 8 * length b
  pub small : s * group + group < 2 ^ 31

-- of n numbers of 64 bits only one is not 0, and its only one has place r among the bits of all
pub record Sole (f : ℕ → ℕ) (n r : ℕ) : Type 0 where
  pub number : f (r / 64) ≡ 2 ^ (63 - r % 64)
  pub others : (k : ℕ) → k < n → (k ≡ r / 64 → ⊥) → f k ≡ 0

-- forty bytes with a pulse at each multiple of the group
pub record Zeros (group : ℕ) (z : List ℕ) : Type 0 where
  pub long : length z ≡ 40
  pub slot : (i : ℕ) → i < 320 → bit_at z i ≡ bool (eqb (i % group) 0)

-- the n bytes from byte `at` on are those given
abbrev pub Same : List ℕ → ℕ → List ℕ → ℕ → Type 0
Same b at given n = (k : ℕ) → k < n → get_or b (at + k) 0 ≡ get_or given k 0
