use Prim.Native.Nat.{◌+◌, ◌*◌}
use Rattle.bits.specs.Inner.{Filled}
use Rattle.interleaver_writer.specs.Inner.{seen_out}
use Rattle.interleaver_writer.proofs.out.planes.Given as goal

abbrev pub invariant-loop-m : goal.invariant-loop-m
invariant-loop-m l = Filled (seen_out l.v) l.seen (270 * l.m)

abbrev pub invariant-loop-n : goal.invariant-loop-n
invariant-loop-n l = Filled (seen_out l.v) l.seen (270 * l.m + 9 * l.n)

abbrev pub invariant-loop-k : goal.invariant-loop-k
invariant-loop-k l = Filled (seen_out l.v) l.seen (270 * l.m + 9 * l.n + l.k)
