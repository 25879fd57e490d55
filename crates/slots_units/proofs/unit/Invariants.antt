use mathlib.Core.Path.{◌≡◌}
use Prim.Native.Nat.{ℕ, ◌*◌, ◌≤◌}
use Rattle.bits.specs.Pack.{val}
use Rattle.slots_units.specs.Inner.{row_slot, Zero, Below}
use Rattle.slots_units.proofs.unit.Given as goal

abbrev pub invariant-loop-j : goal.invariant-loop-j
invariant-loop-j g l =
    ((copies group : ℕ) → Zero copies group g.row.WIDTH l.zero → Below group l.row → g.row.PER * g.row.WIDTH ≤ 40 → l.v ≡ val (row_slot group g.row.WIDTH l.row l.i) (l.j * g.row.WIDTH))
