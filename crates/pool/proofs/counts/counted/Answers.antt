-- The slots that are passed have no pulses, and are not in front.
use mathlib.Core.Path.{◌≡◌}
use native.Mathlib.Omega.{arith}
use Rattle.pool.specs.Pooled.{count}
use Rattle.pool.proofs.Front.{front_end}
use Rattle.pool.proofs.counts.counted.Goals as goal

pub returns : goal.returns
returns c =
    let s = c in
    let a = c.args in
    let l = c.loop-r in
    let h = c.requires.group_least in
    let e : l.r ≡ a.group = omega arith in
    front_end (count a.b.now a.copies a.group a.s) a.group l.top l.q h (rw e at l.invariant.1)
