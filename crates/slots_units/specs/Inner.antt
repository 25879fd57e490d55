-- Symbols that lie in a row, one to a byte, as slots: forty at a time.
use Rattle.std.specs.Prelude.{◌≡◌, List, ℕ, ◌+◌, ◌-◌, ◌*◌, ◌/◌, ◌%◌, ◌≤◌, ◌<◌, eqb, length, get_or}
use Rattle.bits.specs.Basics.{pick, bool}
use Rattle.bits.specs.Pack.{val}
use Rattle.channel.specs.Channel.{layout_symbols}
use Rattle.plan.specs.Inner.{Fine}
use Rattle.plan.specs.declared.Plan.{Plan}
use Rattle.slots.specs.Writing.{symbol_at}

-- how many symbols of `width` slots, with all their copies, are laid at once; 0 where that is not done
unfoldable pub per_forty : ℕ → ℕ
per_forty width = pick (eqb width 5) 8 (pick (eqb width 10) 4 (pick (eqb width 20) 2 (pick (eqb width 40) 1 0)))

-- slot t of the symbols of a row from symbol i on
abbrev pub row_slot : ℕ → ℕ → List ℕ → ℕ → ℕ → ℕ
row_slot group width row i t = bool (eqb (t % group) (get_or row (i + t / width) 0))

-- `zero` has the pulses of a zero with all its copies
pub record Zero (copies group width zero : ℕ) : Type 0 where
  pub whole : width ≡ copies * group
  pub copies_least : 1 ≤ copies
  pub group_least : 1 ≤ group
  pub number : zero ≡ val (λ t. bool (eqb (t % group) 0)) width

-- all symbols of a row are less than `most`
abbrev pub Below : ℕ → List ℕ → Type 0
Below most row = (k : ℕ) → get_or row k 0 < most

-- n symbols of a plan in a row, of which the first is symbol `first` of the run
pub record Row (p : Plan) (first n : ℕ) (row : List ℕ) : Type 0 where
  pub fine : Fine p
  pub inside : first + n ≤ layout_symbols p.layout
  pub long : n ≤ length row
  pub small : Below p.group row

-- they are those of the words
abbrev pub Symbols : Plan → (ℕ → List ℕ) → ℕ → ℕ → List ℕ → Type 0
Symbols p word first n row = (i : ℕ) → i < n → get_or row i 0 ≡ symbol_at p word (first + i)

-- of n symbols, those from `head` up to `last` are `whole` forties, which begin after `units` others
pub record Split (p : Plan) (first n units head whole last : ℕ) : Type 0 where
  pub some : 1 ≤ per_forty (p.copies * p.group)
  pub begin : 8 * (5 * units) ≡ (first + head) * (p.copies * p.group)
  pub size : 8 * (5 * whole) ≡ (last - head) * (p.copies * p.group)
  pub last_is : head + per_forty (p.copies * p.group) * whole ≡ last
  pub last_most : last ≤ n
