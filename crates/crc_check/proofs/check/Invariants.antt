use mathlib.Core.Path.{◌≡◌}
use Rattle.bits.specs.Pack.{bit_at}
use Rattle.crc.specs.Check.{register}
use Rattle.crc_check.proofs.check.Given as goal

abbrev pub invariant-loop-j : goal.invariant-loop-j
invariant-loop-j l = l.r ≡ register (bit_at l.block) l.j
