-- What one look shows.
use Rattle.std.specs.Prelude.{◌≡◌, List, ℕ, ◌+◌, ◌-◌, ◌*◌, ◌/◌, ◌≤◌, ◌<◌, length}
use Rattle.bits.specs.Pack.{bit_at}
use Rattle.bits.specs.Inner.{lesser}

-- slot y can be looked at
pub record Sees (b : List ℕ) (y : ℕ) : Type 0 where
  pub eight : 8 ≤ length b
  pub there : y < 8 * length b

-- how many slots a look at n bytes shows from slot y on: those of eight bytes, of which it is in the first, or which are the last
unfoldable pub shows : ℕ → ℕ → ℕ
shows n y = 64 - (y - 8 * lesser (y / 8) (n - 8))

-- slots y of the capture and i of the marker's n
pub record Looks (b : List ℕ) (y : ℕ) (marker : List ℕ) (i n : ℕ) : Type 0 where
  pub capture : Sees b y
  pub below : i < n
  pub eight : 8 ≤ length marker
  pub room : n ≤ 8 * length marker

-- r slots from there on are right, and the first is wrong where r is 0
pub record Agrees (b : List ℕ) (y : ℕ) (marker : List ℕ) (i n r : ℕ) : Type 0 where
  pub room : i + r ≤ n
  pub same : (k : ℕ) → k < r → bit_at b (y + k) ≡ bit_at marker (i + k)
  pub stop : r ≡ 0 → bit_at b y ≡ bit_at marker i → ⊥
