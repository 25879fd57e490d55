use Prim.Native.Nat.{◌+◌}
use Rattle.bits.specs.Pack.{bit_at}
use Rattle.bits.specs.Inner.{Laid}
use Rattle.bits.proofs.stretch.bytes_from.Given as goal

abbrev pub invariant-loop-t : goal.invariant-loop-t
invariant-loop-t l = Laid l.initial.out l.at l.t (λ u. bit_at l.packed (l.y + u)) l.out
