use Prim.Native.Nat.{◌+◌}
use Rattle.randomizer.specs.Inner.{Added}
use Rattle.randomizer.proofs.Period.{Period}
use Rattle.randomizer.proofs.add_period.Given as goal

abbrev pub invariant-loop-i : goal.invariant-loop-i
invariant-loop-i l = Period l.table × Added l.initial.bytes l.bytes l.start (l.start + l.i)
