-- The byte's bit is cut out by a shift and a mask.
use lib.Bits.{and_mask}
use Rattle.bits.specs.Pack.{bit_at}
use Rattle.bits.proofs.packing.bit_at.Goals as goal

pub returns : goal.returns
unfolding bit_at
returns c = and_mask _ 1
