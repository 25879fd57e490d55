use mathlib.Core.Path.{◌≡◌}
use Prim.Native.Nat.{ℕ, ◌+◌, ◌-◌, ◌≤◌, ◌<◌}
use Rattle.bits.specs.Basics.{up_to}
use Rattle.bits.specs.Pack.{bit_at}
use Rattle.pattern_search.specs.Starts.{missed}
use Rattle.pattern_search.proofs.first_start.Given as goal

abbrev pub invariant-loop-i : goal.invariant-loop-i
invariant-loop-i l = (l.x ≡ l.initial.x) × (l.i ≤ l.m.n) × ((k : ℕ) → k < l.i → bit_at l.b (l.x + k) ≡ bit_at l.slots k)

abbrev pub decreases-loop-i : goal.decreases-loop-i
decreases-loop-i l = l.m.n - l.i

abbrev pub invariant-start : goal.invariant-start
invariant-start l = (l.x ≤ l.end) × (up_to (missed (bit_at l.slots) l.m.n l.b) l.x l.end ≡ up_to (missed (bit_at l.slots) l.m.n l.b) l.from l.end)

abbrev pub decreases-start : goal.decreases-start
decreases-start l = l.end - l.x
