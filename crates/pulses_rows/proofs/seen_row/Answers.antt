-- Each symbol goes into the row.
use mathlib.Core.Path.{sym}
use native.Mathlib.Omega.{arith}
use Rattle.pulses.proofs.Laws.Needs.{sizes}
use Rattle.pulses_rows.proofs.Laws.Rows.{reach_more}
use Rattle.pulses_rows.proofs.seen_row.Goals as goal

pub loop-s-preserved : goal.loop-s-preserved
loop-s-preserved c =
    let s = c in
    let l = c.loop-s in
    let most = c.loop-s.invariant.most in
    let least = c.loop-s.invariant.least in
    let long = c.loop-s.invariant.long in
    let room = c.requires.2 in
    let o = c.seen in
    let z = sizes _ _ s.requires.0.shape in
    let small = s.requires.3 l.s least (omega arith) in
    let e = c.seen.ensures in
    reach_more _ _ _ _ _ _ o.result _ l.invariant (omega arith) (omega arith) z.order_most (rw (← e) at small) (sym e)
