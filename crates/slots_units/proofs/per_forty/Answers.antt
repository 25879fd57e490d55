-- Each width by its test.
use native.Mathlib.Omega.{arith}
use Rattle.slots_units.proofs.Laws.Units.{per_five, per_ten, per_twenty, per_all, per_none}
use Rattle.slots_units.proofs.per_forty.Goals as goal

pub returns-in-5 : goal.returns-in-5
returns-in-5 c = per_five _ c.in-5.is

pub returns-in-10 : goal.returns-in-10
returns-in-10 c = per_ten _ c.in-10.is

pub returns-in-20 : goal.returns-in-20
returns-in-20 c = per_twenty _ c.in-20.is

pub returns-in-40 : goal.returns-in-40
returns-in-40 c = per_all _ c.in-40.is

pub returns-in_default : goal.returns-in_default
returns-in_default c = per_none _ (λ e. omega arith) (λ e. omega arith) (λ e. omega arith) (λ e. omega arith)
