use mathlib.Core.Path.{◌≡◌}
use Prim.Native.Nat.{ℕ, ◌-◌, ◌≤◌, ◌<◌}
use Rattle.pool.specs.Pooled.{count}
use Rattle.pool.proofs.counts.next_lit.Given as goal

abbrev pub invariant-loop-at : goal.invariant-loop-at
invariant-loop-at l = (l.from ≤ l.at) × (l.at ≤ l.group) × ((i : ℕ) → l.from ≤ i → i < l.at → count l.b l.copies l.group l.s i ≡ 0)

abbrev pub decreases-loop-at : goal.decreases-loop-at
decreases-loop-at l = l.group - l.at
