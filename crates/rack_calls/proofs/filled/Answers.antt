-- The two cases of the definition.
use mathlib.Core.Path.{refl, sym}
use borrow.Author.Tests.{eq-eqb, ne_eqb}
use Rattle.rack_calls.proofs.filled.Goals as goal

pub returns-then-status-eq0 : goal.returns-then-status-eq0
returns-then-status-eq0 c = sym (rw (eq-eqb c.args.status 0 c.if-status-eq0.true) refl)

pub returns : goal.returns
returns c = sym (rw (ne_eqb c.args.status 0 c.if-status-eq0.false) refl)
