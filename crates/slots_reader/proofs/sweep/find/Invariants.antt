use mathlib.Core.Path.{◌≡◌}
use Prim.Native.Nat.{◌-◌, ◌*◌, ◌≤◌}
use lib.ListN.{length}
use Rattle.slots_places.proofs.Laws.Passing.{Upto}
use Rattle.slots_reader.proofs.sweep.find.Given as goal

abbrev pub invariant-loop-c : goal.invariant-loop-c
invariant-loop-c l = (l.c ≤ l.whole) × (length l.words ≡ length l.initial.words) × Upto l.p l.b (l.c * l.count) l.rest l.words

abbrev pub decreases-loop-c : goal.decreases-loop-c
decreases-loop-c l = l.whole - l.c
