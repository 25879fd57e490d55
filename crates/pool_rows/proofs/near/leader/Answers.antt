-- Copy after copy, the first number has the slots with a pulse and the second those with several.
use Rattle.std.proofs.Common.{◌≡◌, ℕ, ◌<◌, arith, of_calls}
use Rattle.bits.specs.Pack.{bit_of}
use Rattle.pool_rows.specs.Inner.{pulses_of}
use Rattle.pool_rows.proofs.Worth.{any_none, several_none, any_more, several_more, worth_peak}
use Rattle.pool_rows.proofs.near.leader.Goals as goal

pub loop-c-init : goal.loop-c-init
loop-c-init g c = λ f shown i l. (any_none f i, several_none f i)

pub loop-c-preserved : goal.loop-c-preserved
loop-c-preserved g c = λ f shown i small.
    let l = c.loop-c in
    let before = l.invariant f shown i small in
    let here : bit_of c.number-v.result i ≡ f l.c i = shown l.c c.number-v.result i (omega arith) small (search of_calls) in
    (any_more f l.c i l.any c.number-v.result before.0 here, several_more f l.c i l.any l.several c.number-v.result before.0 before.1 here)

pub returns : goal.returns
returns g c = λ small f shown.
    let l = c.loop-c in
    let e : l.c ≡ c.args.copies = omega arith in
    let all = λ (i : ℕ) (k : i < c.args.group). rw e at (l.invariant f shown i k) in
    worth_peak (pulses_of f c.args.copies) c.args.group l.any l.several c.settled.result small (λ i k. (all i k).0) (λ i k. (all i k).1) (c.settled.ensures small)
