use Prim.Native.Nat.{◌<◌}
use Rattle.accumulator.specs.Inner.{SoFar}
use Rattle.accumulator.proofs.accumulate.Given as goal

abbrev pub invariant-loop-i : goal.invariant-loop-i
invariant-loop-i l = (l.last < 2) × SoFar l.fn.word l.word l.i l.last
