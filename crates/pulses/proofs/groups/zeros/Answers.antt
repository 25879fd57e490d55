-- Pulses at the multiples of the group, one after another.
use mathlib.Core.Path.{refl}
use Prim.Native.Nat.{◌+◌}
use native.Mathlib.Omega.{arith}
use lib.ListN.{get_or-replicate}
use Rattle.pulses.proofs.Laying.{upto_none, upto_more, upto_all}
use Rattle.pulses.proofs.groups.zeros.Goals as goal

pub loop-x-init : goal.loop-x-init
loop-x-init c = upto_none c.args.group c.requires.0 _ refl (λ k h. get_or-replicate 40 k 0 0 h)

pub loop-x-preserved : goal.loop-x-preserved
loop-x-preserved c =
    let a = c in
    let l = c.loop-x in
    rw c.put_bit.ensures (upto_more a.args.group l.x a.requires.0 (omega arith) l.slots l.invariant)

-- no step stays below 320
pub returns-2 : goal.returns-2
returns-2 c =
    let l = c.loop-x in
    rw c.put_bit.ensures (upto_all c.args.group (l.x + c.args.group) _ (omega arith) (upto_more c.args.group l.x c.requires.0 (omega arith) l.slots l.invariant))
