-- The starts of the columns before c stand in their planes.
use native.Mathlib.Omega.{arith}
use borrow.Author.Rules.{rules}
use Rattle.interleaver_columns.proofs.Begins.{begin_more}
use Rattle.interleaver_columns.proofs.out.by_plane.Goals as goal

pub loop-c-preserved : goal.loop-c-preserved
loop-c-preserved c =
    let l = c.loop-c in
    let e = c.requires.0.1 l.c (omega arith) in
    (search rules, begin_more l.from l.c _ l.invariant.0 (omega arith) e l.invariant.1)
