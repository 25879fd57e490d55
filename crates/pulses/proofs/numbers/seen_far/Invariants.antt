use Prim.Native.Nat.{◌/◌, ◌≤◌}
use Rattle.pulses.specs.Pulses.{symbol_in}
use Rattle.pulses.proofs.Swept.{number_at}
use Rattle.pulses.proofs.Seen.{Front}
use Rattle.pulses.proofs.numbers.seen_far.Given as goal

abbrev pub invariant-loop-k : goal.invariant-loop-k
invariant-loop-k l = (l.k ≤ l.n) × Front (number_at l.b l.at) (symbol_in l.order l.group l.b l.s / 64) l.k l.any l.zeros
