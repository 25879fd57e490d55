-- What is known of a row of symbols while it is filled, and the slots that are read at once.
use Rattle.std.specs.Prelude.{◌≡◌, List, ℕ, ◌+◌, ◌-◌, ◌*◌, ◌/◌, ◌%◌, ◌^◌, ◌≤◌, ◌<◌, length, get_or}
use Rattle.std.specs.Int.Bits.{bit_and, bit_xor}

-- the first n places of the row hold the symbols f from, f (from + 1), .., all below M
abbrev pub Known : ℕ → (ℕ → ℕ) → ℕ → ℕ → List ℕ → Type 0
Known order f from n row = (i : ℕ) → i < n → (f (from + i) < order) × (get_or row i 0 ≡ f (from + i))

-- the symbols from `from` on are in the row up to s, which is at most `to`; the row is as long as it was
pub record Reached (order : ℕ) (f : ℕ → ℕ) (before : List ℕ) (from to s : ℕ) (row : List ℕ) : Type 0 where
  pub least : from ≤ s
  pub most : s ≤ to
  pub long : length row ≡ length before
  pub known : Known order f from (s - from) row

-- forty slots are `per` groups, and so are those from group s on, which begins on a byte; eight bytes follow from there
pub record Forty (order group per : ℕ) (b : List ℕ) (s : ℕ) : Type 0 where
  pub order_least : 1 ≤ order
  pub order_most : order ≤ group
  pub whole : per * group ≡ 40
  pub byte : s * group ≡ 8 * (s * group / 8)
  pub inside : s * group + 64 ≤ 8 * length b
  pub small : s * group < 2 ^ 31

-- the groups from `from` on up to `to` are within b, and at least eight bytes from each of their slots on
pub record Clear (order group : ℕ) (b : List ℕ) (from to : ℕ) : Type 0 where
  pub order_least : 1 ≤ order
  pub order_most : order ≤ group
  pub turn : from ≤ to
  pub room : from < to → to * group + 64 ≤ 8 * length b
  pub small : to * group < 2 ^ 31

-- ---- eight groups of five slots in a number of forty bits, the last group lowest

abbrev pub digit : ℕ → ℕ → ℕ
digit v j = v / 2 ^ j % 2

-- two bits of every five
abbrev pub five_of : ℕ → ℕ → ℕ
five_of w k = w / 2 ^ (5 * k) % 4

-- five slots of which one of the first four alone has a pulse
pub record Single (a p q r g : ℕ) : Type 0 where
  pub odd : bit_xor (bit_xor (bit_xor a p) q) r ≡ 1
  pub first : bit_and a p ≡ 0
  pub second : bit_and q r ≡ 0
  pub guard : g ≡ 0

-- the first n of the eight symbols in w are in the row from `at` on; the places before are unchanged
pub record Fives (before : List ℕ) (at n w : ℕ) (row : List ℕ) : Type 0 where
  pub long : length row ≡ length before
  pub earlier : (i : ℕ) → i < at → get_or row i 0 ≡ get_or before i 0
  pub here : (k : ℕ) → k < n → get_or row (at + k) 0 ≡ five_of w (7 - k)
