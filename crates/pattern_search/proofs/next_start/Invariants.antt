use Prim.Native.Nat.{◌-◌}
use Rattle.pattern_search.specs.Inner.{Next}
use Rattle.pattern_search.proofs.next_start.Given as goal

abbrev pub invariant-loop-at : goal.invariant-loop-at
invariant-loop-at l = Next l.b l.m.first l.m.last l.x l.end l.at

abbrev pub decreases-loop-at : goal.decreases-loop-at
decreases-loop-at l = l.end - l.at
