-- Slots that hold symbols, group by group: they begin as zeros, and then the pulses are moved.
use Rattle.std.specs.Prelude.{◌≡◌, List, ℕ, ◌+◌, ◌*◌, ◌/◌, ◌%◌, ◌^◌, ◌≤◌, ◌<◌, eqb, length, get_or}
use Rattle.bits.specs.Basics.{bool}
use Rattle.bits.specs.Pack.{bit_at, Bytes, cut}
use Rattle.channel.specs.Channel.{layout_symbols}
use Rattle.plan.specs.Inner.{slot_bytes}
use Rattle.plan.specs.declared.Plan.{Plan}
use Rattle.slots.specs.Writing.{symbol_at}

-- symbol s, whose pulse is to be at slot q of each copy, lies in the slots
pub record Copied (copies group s q : ℕ) (slots : List ℕ) : Type 0 where
  pub small : q < group
  pub inside : (s * copies + copies) * group ≤ 8 * length slots
  pub bound : (s * copies + copies) * group < 2 ^ 36

-- and is one of a plan's
pub record Of (p : Plan) (copies group s q : ℕ) : Type 0 where
  pub copies_are : copies ≡ p.copies
  pub copies_least : 1 ≤ p.copies
  pub group_is : group ≡ p.group
  pub among : s < layout_symbols p.layout
  pub small : q < p.group

-- the first `end` bytes hold groups with pulses at f 0, f 1, ..; those after hold anything
pub record Groups (p : Plan) (f : ℕ → ℕ) (end : ℕ) (slots : List ℕ) : Type 0 where
  pub room : length slots ≡ slot_bytes p
  pub bytes : Bytes slots
  pub bits : (x : ℕ) → x < 8 * end → bit_at slots x ≡ bool (eqb (x % p.group) (f (x / p.group)))

-- the same, where the groups are the copies of the symbols f 0, f 1, ..
abbrev pub Holds : Plan → (ℕ → ℕ) → ℕ → List ℕ → Type 0
Holds p f end slots = Groups p (λ u. f (u / p.copies)) end slots

-- symbol s, which was 0, is q in all its copies, and the others are as they were
pub record Moved (p : Plan) (s q : ℕ) (before after : List ℕ) : Type 0 where
  pub becomes : (f g : ℕ → ℕ) (end : ℕ) → f s ≡ 0 → g s ≡ q → ((u : ℕ) → (u ≡ s → ⊥) → f u ≡ g u) → Holds p f end before → Holds p g end after

-- the first n symbols of a run, and zeros after them
abbrev pub front : Plan → (ℕ → List ℕ) → ℕ → ℕ → ℕ
front p word n s = cut n (symbol_at p word) s

-- ---- zeros

-- bytes that repeat every forty
pub record Repeats (z : List ℕ) : Type 0 where
  pub least : 40 ≤ length z
  pub again : (k : ℕ) → k < length z → get_or z k 0 ≡ get_or z (k % 40) 0

-- they are in the bytes from `from` up to `to`; what comes before those is unchanged
pub record Laid (z before : List ℕ) (from to : ℕ) (after : List ℕ) : Type 0 where
  pub long : length after ≡ length before
  pub earlier : (k : ℕ) → k < from → get_or after k 0 ≡ get_or before k 0
  pub here : (k : ℕ) → from ≤ k → k < to → get_or after k 0 ≡ get_or z (k % 40) 0

-- and they are zeros' slots
pub record Zeros (group : ℕ) (z : List ℕ) : Type 0 where
  pub repeats : Repeats z
  pub slot : (i : ℕ) → i < 320 → bit_at z i ≡ bool (eqb (i % group) 0)
