-- Symbols in a row of bytes, and the words that they are laid into.
use Rattle.std.specs.Prelude.{◌≡◌, Bool, List, ℕ, ◌+◌, ◌-◌, ◌*◌, ◌/◌, ◌%◌, ◌^◌, ◌≤◌, ◌<◌, ltb, length, get_or}
use Rattle.std.specs.Int.Bits.{bit_xor}
use Rattle.bits.specs.Basics.{pick}
use Rattle.bits.specs.Pack.{bit_at}
use Rattle.channel.specs.Channel.{total, place}
use Rattle.channel.specs.Inner.{delay, Puts}
use Rattle.plan.specs.declared.Plan.{Plan}
use Rattle.plan.specs.Inner.{Fine}
use Rattle.sizes.specs.Sizes.{word_bytes, word_bits}

-- room for the words, and a byte after them
abbrev pub Room : Plan → List ℕ → Type 0
Room p words = p.layout.words * word_bytes < length words

-- ---- every n-th symbol

-- each symbol of the row from `from` on before `to` can be laid as far after symbol t of the words
pub record Scatters (row : List ℕ) (from to n m t : ℕ) (words : List ℕ) : Type 0 where
  pub least : 1 ≤ n
  pub most : n ≤ 128
  pub room : to ≤ length row
  pub bound : to < 2 ^ 32
  pub bits_least : 1 ≤ m
  pub bits_most : m ≤ 8
  pub start : t < 2 ^ 32
  pub puts : (j : ℕ) → from + j < to → Puts (t + j) m (get_or row (from + j) 0) words

-- every n-th of d symbols was added to the words
pub record Scattered (row : List ℕ) (from d n m t : ℕ) (before after : List ℕ) : Type 0 where
  pub long : length after ≡ length before
  pub here : (j y : ℕ) → j < d → j % n ≡ 0 → y / m ≡ t + j → bit_at after y ≡ bit_xor (bit_at before y) (get_or row (from + j) 0 / 2 ^ (m - 1 - y % m) % 2)
  pub others : (y : ℕ) → ((j : ℕ) → j < d → j % n ≡ 0 → y / m ≡ t + j → ⊥) → bit_at after y ≡ bit_at before y

-- ---- all of them

-- the places from x on, whose symbols are in a row from `from` on up to `to`, are all hit
pub record Hit (p : Plan) (from to x : ℕ) (row : List ℕ) : Type 0 where
  pub fine : Fine p
  pub order : from ≤ to
  pub room : to ≤ length row
  pub bound : to < 2 ^ 32
  pub begun : delay p.layout (p.layout.rows - 1) ≤ x
  pub end : x + (to - from) ≤ total p.layout
  pub small : (i : ℕ) → from ≤ i → i < to → get_or row i 0 < p.order

-- what is at the d places from x on is in the row from `from` on
abbrev pub Shown : (ℕ → ℕ) → List ℕ → ℕ → ℕ → ℕ → Type 0
Shown at row from d x = (k : ℕ) → k < d → get_or row (from + k) 0 ≡ at (x + k)

-- the words have what is at the places that are done, and elsewhere 0
pub record Laid (p : Plan) (at : ℕ → ℕ) (done : ℕ → Bool) (words : List ℕ) : Type 0 where
  pub right : (y : ℕ) → y < p.layout.words * word_bits
      → bit_at words y ≡ pick (done (place p.layout (y / p.bits))) (at (place p.layout (y / p.bits)) / 2 ^ (p.bits - 1 - y % p.bits) % 2) 0

-- the places before y
abbrev pub before : ℕ → ℕ → Bool
before y z = ltb z y

-- place z is done: those of the residues below r before y, the others before x
unfoldable pub reached : ℕ → ℕ → ℕ → ℕ → ℕ → Bool
reached n r x y z = ltb z (pick (ltb (z % n) r) y x)
