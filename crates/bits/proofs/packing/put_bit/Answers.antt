-- The byte with its bit set, by a shift.
use mathlib.Core.Path.{refl}
use Rattle.bits.specs.Inner.{with_bit}
use Rattle.bits.proofs.packing.put_bit.Goals as goal

pub returns : goal.returns
unfolding with_bit
returns c = refl
