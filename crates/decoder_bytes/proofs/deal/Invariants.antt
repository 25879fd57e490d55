use Prim.Native.Nat.{◌≤◌}
use Rattle.decoder_bytes.specs.Inner.{Dealt}
use Rattle.decoder_bytes.proofs.deal.Given as goal

abbrev pub invariant-loop-g : goal.invariant-loop-g
invariant-loop-g l = (l.g ≤ l.n) × Dealt l.from l.x l.step l.g l.at l.initial.out l.out
