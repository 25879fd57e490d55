use Rattle.std.proofs.Common.{◌≡◌, ℕ, ◌≤◌, ◌<◌}
use Rattle.pulses.proofs.Laws.Swept.{Swept}
use Rattle.pulses.proofs.numbers.only.Given as goal

abbrev pub invariant-loop-k : goal.invariant-loop-k
invariant-loop-k g l = record {
  most : l.empty ≤ l.k;
  room : l.zeros ≤ l.k;
  swept : (f : ℕ → ℕ) → ((k v : ℕ) → k < l.n → goal.F-post g l.number k v → v ≡ f k) → Swept f l.k l.any l.empty l.zeros;
}
