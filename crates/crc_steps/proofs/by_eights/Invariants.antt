use mathlib.Core.Path.{◌≡◌}
use Prim.Native.Nat.{◌*◌}
use Rattle.bits.specs.Pack.{bit_at}
use Rattle.crc.specs.Check.{register}
use Rattle.crc_steps.proofs.by_eights.Given as goal

abbrev pub invariant-loop-j : goal.invariant-loop-j
invariant-loop-j l = l.r ≡ register (bit_at l.block) (64 * l.j)
