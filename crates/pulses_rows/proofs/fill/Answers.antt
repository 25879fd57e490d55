-- Each symbol goes into the row as it is asked for.
use Rattle.std.proofs.Common.{ℕ, ◌<◌, arith, of_calls}
use Rattle.pulses_rows.proofs.Laws.Rows.{reach_more}
use Rattle.pulses_rows.proofs.fill.Goals as goal

pub loop-k-preserved : goal.loop-k-preserved
loop-k-preserved g c = λ f same known.
    let l = c.loop-k in
    let q : ℕ = c.symbol-q.result in
    let small : q < c.args.order = omega arith in
    reach_more _ _ _ _ _ _ q _ (l.invariant f same known) (omega arith) (omega arith) (omega arith) small (same l.k q (omega arith) (omega arith) (search of_calls) small)
