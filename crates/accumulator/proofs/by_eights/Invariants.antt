use Prim.Native.Nat.{◌*◌}
use Rattle.accumulator.specs.Inner.{SoFar}
use Rattle.accumulator.proofs.by_eights.Given as goal

abbrev pub invariant-loop-j : goal.invariant-loop-j
invariant-loop-j l = SoFar l.initial.word l.word (8 * l.j) l.last
