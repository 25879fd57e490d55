use mathlib.Core.Path.{◌≡◌}
use Prim.Native.Nat.{◌+◌, ◌*◌, ◌/◌}
use Rattle.bits.specs.Pack.{bit_at}
use Rattle.crc.specs.Check.{register}
use Rattle.crc_steps.proofs.by_tables.Given as goal

abbrev pub invariant-loop-byte : goal.invariant-loop-byte
invariant-loop-byte l = l.r ≡ register (bit_at l.block) (8 * (8 * (l.n / 8) + l.byte-index))
