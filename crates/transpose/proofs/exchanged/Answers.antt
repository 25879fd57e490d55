-- Two bytes more have changed places.
use mathlib.Core.Path.{refl}
use native.Mathlib.Omega.{arith}
use borrow.Author.Rules.{rules}
use Rattle.transpose.specs.Inner.{low_of, high_of}
use Rattle.transpose.proofs.Exchanges.{exchanged_more}
use Rattle.transpose.proofs.exchanged.Goals as goal

pub loop-i-preserved : goal.loop-i-preserved
unfolding low_of high_of
loop-i-preserved c =
    let l = c.loop-i in
    let a = c.args in
    let e = c.loop-i.invariant.long in
    (exchanged_more a.e a.m a.d a.at l.i a.s.now l.s (search rules) (omega arith) l.invariant _ _ refl refl)
