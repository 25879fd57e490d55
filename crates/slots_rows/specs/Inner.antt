-- The symbols of a line's places gathered in a row, one to a byte.
use Rattle.std.specs.Prelude.{◌≡◌, List, ℕ, ◌+◌, ◌*◌, ◌%◌, ◌≤◌, ◌<◌, ltb, length, get_or}
use Rattle.bits.specs.Basics.{pick}
use Rattle.plan.specs.declared.Plan.{Plan}
use Rattle.slots.specs.Writing.{placed_symbol}

-- the bytes of a row: no line has more symbols
abbrev pub row_bytes : ℕ
row_bytes = 7560

-- the symbols of a line's places with a residue below r, and zeros elsewhere
pub record RowTo (p : Plan) (word : ℕ → List ℕ) (line r : ℕ) (row : List ℕ) : Type 0 where
  pub long : length row ≡ row_bytes
  pub held : (k : ℕ) → k < p.layout.symbols → get_or row k 0 ≡ pick (ltb ((line * p.layout.symbols + k) % p.layout.rows) r) (placed_symbol p word (line * p.layout.symbols + k)) 0
  pub rest : (k : ℕ) → p.layout.symbols ≤ k → get_or row k 0 ≡ 0
