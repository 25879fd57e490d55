-- Each turn picks a number more.
use mathlib.Core.Path.{refl}
use native.Mathlib.Omega.{arith}
use borrow.Author.Rules.{rules}
use Rattle.word_columns.proofs.Loops.{begun_more}
use Rattle.word_columns.proofs.picking.eight.Goals as goal

pub loop-t-preserved : goal.loop-t-preserved
loop-t-preserved c =
    let l = c.loop-t in
    let s = c in
    (search rules, begun_more s.args.v.now s.args.at.now s.args.k s.args.n s.requires.v_len.2 s.requires.v_len.3 l.t _ l.seen (omega arith) l.invariant.0 refl l.invariant.1)
