-- The marker's bit is cut out by a shift and a mask.
use lib.Bits.{and_mask}
use Rattle.stream_writer.specs.Stream.{marker_bit}
use Rattle.stream_bits.proofs.marked.marker_bit.Goals as goal

pub returns : goal.returns
unfolding marker_bit
returns c = and_mask _ 1
