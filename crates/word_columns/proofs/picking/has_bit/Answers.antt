-- The test as a number.
use mathlib.Core.Bool.{Bool, true, false, not}
use mathlib.Core.Path.{◌≡◌, refl, ◌∙◌}
use mir.Val.{bool_byte}
use Rattle.bits.specs.Basics.{pick}
use Rattle.word_columns.specs.Inner.{has_bit}
use Rattle.word_columns.proofs.picking.has_bit.Goals as goal

as_byte : (zero : Bool) → bool_byte (not zero) ≡ pick zero 0 1
as_byte true = refl
as_byte false = refl

pub returns : goal.returns
unfolding has_bit
returns c = c.from.ensures ∙ as_byte _
