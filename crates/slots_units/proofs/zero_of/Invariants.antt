use mathlib.Core.Path.{◌≡◌}
use Prim.Native.Nat.{◌*◌, ◌%◌}
use lib.Dec.{eqb}
use Rattle.bits.specs.Basics.{bool}
use Rattle.bits.specs.Pack.{val}
use Rattle.slots_units.proofs.zero_of.Given as goal

abbrev pub invariant-loop-c : goal.invariant-loop-c
invariant-loop-c l = l.v ≡ val (λ t. bool (eqb (t % l.group) 0)) (l.c * l.group)
