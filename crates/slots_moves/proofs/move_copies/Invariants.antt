use mathlib.Core.Path.{◌≡◌}
use Prim.Native.Nat.{ℕ, ◌+◌, ◌*◌}
use lib.ListN.{length}
use Rattle.plan.specs.declared.Plan.{Plan}
use Rattle.slots_moves.specs.Inner.{Of, Groups, Holds}
use Rattle.slots_moves.proofs.Laws.Moves.{halfway}
use Rattle.slots_moves.proofs.move_copies.Given as goal

abbrev pub invariant-loop-c : goal.invariant-loop-c
invariant-loop-c l =
    (length l.slots ≡ length l.initial.slots)
    × ((p : Plan) → Of p l.copies l.group l.s l.q → (f g : ℕ → ℕ) (end : ℕ) → f l.s ≡ 0 → g l.s ≡ l.q → ((u : ℕ) → (u ≡ l.s → ⊥) → f u ≡ g u) → Holds p f end l.initial.slots
    → Groups p (halfway p f g (l.s * p.copies + l.c)) end l.slots)
