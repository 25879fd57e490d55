-- No difference in the bytes passed, where the differences joined are 0.
use Prim.Native.Nat.{◌+◌}
use lib.ListN.{get_or}
use Rattle.bits.proofs.Laws.Sum.{same_more}
use Rattle.pulses.proofs.groups.difference.Goals as goal

pub loop-k-preserved : goal.loop-k-preserved
loop-k-preserved c =
    let a = c.args in
    let l = c.loop-k in
    same_more (λ i. get_or a.b.now (a.at + i) 0) (λ i. get_or a.given.now i 0) l.k l.d l.invariant
