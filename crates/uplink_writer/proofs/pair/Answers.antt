-- One slot of each four has the pulse, by the bit: four cases.
use Prim.Native.Nat.{◌-◌, ◌*◌, ◌/◌, ◌^◌}
use native.Mathlib.Omega.{arith}
use lib.Bits.{mask_lt}
use Rattle.uplink_writer.proofs.Writing.{pair_slots}
use Rattle.uplink_writer.proofs.pair.Goals as goal

pub overflow_cast-result : goal.overflow_cast-result
overflow_cast-result c = omega (arith, mask_lt (c.args.v / 2 ^ (63 - 2 * c.args.q)) 1)

pub overflow_shr-result : goal.overflow_shr-result
overflow_shr-result c = omega (arith, mask_lt (c.args.v / 2 ^ (63 - 2 * c.args.q)) 1)

pub overflow_cast-result-2 : goal.overflow_cast-result-2
overflow_cast-result-2 c = omega (arith, mask_lt (c.args.v / 2 ^ (62 - 2 * c.args.q)) 1)

pub overflow_shr-result-2 : goal.overflow_shr-result-2
overflow_shr-result-2 c = omega (arith, mask_lt (c.args.v / 2 ^ (62 - 2 * c.args.q)) 1)

pub returns : goal.returns
returns c = pair_slots c.args.v c.args.q (omega arith)
