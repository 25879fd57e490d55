-- Two times e rows more have changed places.
use Rattle.transpose.proofs.Exchanges.{stage_more}
use Rattle.transpose.proofs.stage.Goals as goal

pub loop-k-preserved : goal.loop-k-preserved
loop-k-preserved c =
    let l = c.loop-k in
    let s = c in
    let o = c.exchanged in
    stage_more s.args.w s.args.e s.args.m l.k s.args.s.now l.s o.new.s s.requires.0 l.invariant o.ensures
