use mathlib.Core.Path.{◌≡◌}
use Prim.Native.Nat.{ℕ, ◌*◌}
use lib.ListN.{length}
use Rattle.bits.specs.Inner.{Laid}
use Rattle.slots_units.specs.Inner.{row_slot, Zero, Below}
use Rattle.slots_units.proofs.lay.Given as goal

abbrev pub invariant-loop-u : goal.invariant-loop-u
invariant-loop-u g l =
    (length l.slots ≡ length l.initial.slots)
    × ((copies group : ℕ) → Zero copies group g.row.WIDTH l.zero → Below group l.row → g.row.PER * g.row.WIDTH ≡ 40 → Laid l.initial.slots l.at (5 * l.u) (row_slot group g.row.WIDTH l.row l.from) l.slots)
