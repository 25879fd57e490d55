use mathlib.Core.Path.{◌≡◌}
use mathlib.Core.List.{List}
use Prim.Native.Nat.{ℕ, ◌+◌, ◌≤◌}
use lib.ListN.{length}
use Rattle.plan.specs.declared.Plan.{Plan}
use Rattle.slots_moves.specs.Inner.{Holds, front}
use Rattle.slots_units.specs.Inner.{Row, Symbols}
use Rattle.slots_units.proofs.move_row.Given as goal

abbrev pub invariant-loop-i : goal.invariant-loop-i
invariant-loop-i l =
    (l.from ≤ l.i) × (l.i ≤ l.to) × (length l.slots ≡ length l.initial.slots)
    × ((p : Plan) → p.copies ≡ l.copies → p.group ≡ l.group → Row p l.first l.to l.row → (word : ℕ → List ℕ) (end : ℕ) → Symbols p word l.first l.to l.row
    → Holds p (front p word (l.first + l.from)) end l.initial.slots → Holds p (front p word (l.first + l.i)) end l.slots)
