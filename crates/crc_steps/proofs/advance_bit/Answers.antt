-- The feedback is one bit, so its product with the polynomial fits.
use mathlib.Core.Path.{refl}
use Rattle.crc.specs.Check.{advance}
use Rattle.crc_steps.proofs.advance_bit.Goals as goal

pub returns : goal.returns
unfolding advance
returns c = refl
