-- The byte with its bit turned over, by a shift.
use mathlib.Core.Path.{refl}
use Rattle.bits.specs.Pack.{flip_bit}
use Rattle.bits.proofs.change.flip.Goals as goal

pub returns : goal.returns
unfolding flip_bit
returns c = refl
