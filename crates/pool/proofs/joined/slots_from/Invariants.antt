use mathlib.Core.Path.{◌≡◌}
use Rattle.bits.specs.Pack.{val}
use Rattle.pool.specs.Inner.{some}
use Rattle.pool.proofs.Joining.{shown_of}
use Rattle.pool.proofs.joined.slots_from.Given as goal

abbrev pub invariant-loop-c : goal.invariant-loop-c
invariant-loop-c l = l.any ≡ val (λ t. some (λ c. shown_of l.b l.copies l.group l.s l.at c t) l.c) 64
