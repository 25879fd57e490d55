use mathlib.Core.Path.{◌≡◌}
use Prim.Native.Nat.{◌+◌, ◌*◌}
use Rattle.bits.specs.Pack.{val, cut}
use Rattle.bits.specs.Inner.{bits_from}
use Rattle.pool.specs.Inner.{some}
use Rattle.pool.proofs.joined.fronts.Given as goal

abbrev pub invariant-loop-c : goal.invariant-loop-c
invariant-loop-c l = l.any ≡ val (λ t. some (λ c. cut l.width (bits_from l.b (8 * (l.at + c * l.bytes))) t) l.c) 64
