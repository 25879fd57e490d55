use mathlib.Core.Path.{◌≡◌}
use Rattle.pulses.specs.Inner.{Same}
use Rattle.pulses.proofs.groups.difference.Given as goal

abbrev pub invariant-loop-k : goal.invariant-loop-k
invariant-loop-k l = l.d ≡ 0 → Same l.b l.at l.given l.k
