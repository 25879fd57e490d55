-- Of the numbers all but one are 0, and that has a single one.
use Rattle.std.proofs.Common.{◌≡◌, arith, of_calls}
use Rattle.bits.proofs.Laws.Choice.{bool_lt}
use lib.Bits.{bit_or}
use lib.Dec.{eqb}
use Rattle.pulses.proofs.Laws.Swept.{swept_none, swept_more, swept_sole}
use Rattle.pulses.proofs.numbers.only.Goals as goal

pub loop-k-init : goal.loop-k-init
loop-k-init g c = record { most = omega arith; room = omega arith; swept = λ f h. swept_none f }

pub loop-k-preserved : goal.loop-k-preserved
loop-k-preserved g c =
    let l = c.loop-k in
    let e = c.none-empty.ensures in
    let z = c.none-zeros.ensures in
    let one = bool_lt (eqb c.number-v.result 0) in
    let too = bool_lt (eqb (bit_or l.any c.number-v.result) 0) in
    record {
      most = omega arith;
      room = omega arith;
      swept = λ f h. swept_more f l.k l.any l.empty l.zeros _ _ _ (l.invariant.swept f h) (h l.k c.number-v.result (omega arith) (search of_calls)) e z;
    }

pub returns : goal.returns
returns g c = λ small f h.
    let l = c.loop-k in
    let e : l.k ≡ c.args.n = omega arith in
    swept_sole f c.args.n l.any l.empty l.zeros c.lone-r.result (rw e at (l.invariant.swept f h)) (omega arith) (omega arith) (c.lone-r.ensures (omega arith))
