use mathlib.Core.Path.{◌≡◌}
use Prim.Native.Nat.{◌%◌, min}
use Rattle.randomizer.specs.Inner.{Added}
use Rattle.randomizer.proofs.randomize.Given as goal

abbrev pub invariant-loop-start : goal.invariant-loop-start
invariant-loop-start l = (l.start % 255 ≡ 0) × Added l.initial.bytes l.bytes 0 (min l.start l.n)
