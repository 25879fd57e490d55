-- The places of a line, residue by residue.
use Rattle.std.specs.Prelude.{◌≡◌, List, Bool, ℕ, ◌+◌, ◌-◌, ◌*◌, ◌/◌, ◌%◌, ◌<◌, ltb, eqb}
use Rattle.bits.specs.Basics.{pick}
use Rattle.bits.specs.Pack.{cut}
use Rattle.channel.specs.Channel.{unit}
use Rattle.plan.specs.declared.Plan.{Plan}
use Rattle.slots.specs.Writing.{symbol_at}
use Rattle.slots_moves.specs.Inner.{Holds, front}

-- how far apart two places are whose pulses are moved one after the other
unfoldable pub stride : ℕ → ℕ
stride rows = pick (eqb rows 1) 8 rows

-- a residue, r, of a line whose first place has residue c
pub record Residue (p : Plan) (line c r : ℕ) : Type 0 where
  pub inside : line < p.layout.lines
  pub start : c ≡ line * p.layout.symbols % stride p.layout.rows
  pub small : r < stride p.layout.rows

-- the symbols of a line were put after its markers: what held the run up to these holds it up to the next line
abbrev pub LinePut : Plan → (ℕ → List ℕ) → ℕ → List ℕ → List ℕ → Type 0
LinePut p word line before after = (end : ℕ) → Holds p (front p word (line * unit p.layout + p.layout.markers)) end before → Holds p (front p word ((line + 1) * unit p.layout)) end after

-- the bytes that the slots before line j begin
abbrev pub line_end : Plan → ℕ → ℕ
line_end p j = (j * unit p.layout * p.copies * p.group + 7) / 8

-- place y comes before place x of residue r
unfoldable pub sooner : ℕ → ℕ → ℕ → ℕ → Bool
sooner n r x y = pick (eqb (y % n) r) (ltb y x) (ltb (y % n) r)

-- the symbols before line j, its markers, and those of its places that come before place x of residue r
unfoldable pub so_far : Plan → (ℕ → List ℕ) → ℕ → ℕ → ℕ → ℕ → ℕ
so_far p word j r x s =
    let first : ℕ = j * unit p.layout + p.layout.markers in
    let y : ℕ = j * p.layout.symbols + (s - first) in
    cut (first + p.layout.symbols) (λ s. pick (ltb s first) (symbol_at p word s) (pick (sooner (stride p.layout.rows) r x y) (symbol_at p word s) 0)) s
