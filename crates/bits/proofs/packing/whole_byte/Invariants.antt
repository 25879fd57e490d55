use mathlib.Core.Path.{◌≡◌}
use Prim.Native.Nat.{◌+◌}
use lib.ListN.{get_or}
use Rattle.bits.specs.Pack.{val}
use Rattle.bits.proofs.packing.whole_byte.Given as goal

abbrev pub invariant-loop-t : goal.invariant-loop-t
invariant-loop-t l = l.byte ≡ val (λ t. get_or l.bits (l.at + t) 0) l.t
