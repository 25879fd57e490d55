use mathlib.Core.Path.{◌≡◌}
use Prim.Native.Nat.{◌+◌, ◌*◌, ◌≤◌}
use Rattle.bits.specs.Pack.{bit_at}
use Rattle.bits.specs.Count.{weight}
use Rattle.pool.proofs.counts.count_at.Given as goal

abbrev pub invariant-loop-c : goal.invariant-loop-c
invariant-loop-c l = (l.v ≤ l.c) × (l.v ≡ weight (λ c. bit_at l.b ((l.s * l.copies + c) * l.group + l.r)) l.c)
