-- The code is the definition.
use mathlib.Core.Path.{refl}
use borrow.Author.Tests.{eq-eqb, ne_eqb}
use Rattle.slots_lines.specs.Inner.{stride}
use Rattle.slots_lines.proofs.stride_of.Goals as goal

pub returns-then-rows-eq1 : goal.returns-then-rows-eq1
unfolding stride
returns-then-rows-eq1 c = rw (eq-eqb _ _ c.if-rows-eq1.true) refl

pub returns-else-rows-eq1 : goal.returns-else-rows-eq1
unfolding stride
returns-else-rows-eq1 c = rw (ne_eqb _ _ c.if-rows-eq1.false) refl
