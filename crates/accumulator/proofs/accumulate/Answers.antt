-- The first i bytes are outputs of those that were lent.
use native.Mathlib.Omega.{arith}
use lib.Bits.{and_mask}
use lib.ListN.{length}
use Rattle.bits.specs.Pack.{bit_at}
use Rattle.bits.proofs.Laws.Pack.{bytes_by_byte}
use Rattle.accumulator.specs.Accumulator.{accumulate}
use Rattle.accumulator.proofs.Places.{last_bit, so_far_byte}
use Rattle.accumulator.proofs.accumulate.Goals as goal

pub loop-i-init : goal.loop-i-init
loop-i-init c = (last_bit c.by_eights-last.ensures, c.by_eights-last.ensures)

pub loop-i-preserved : goal.loop-i-preserved
loop-i-preserved c =
    let v = c.summed-sums.result in
    (omega (arith, and_mask v 1), rw (and_mask v 1) (so_far_byte c.loop-i.invariant.1 v (omega arith) c.summed-sums.ensures))

pub returns : goal.returns
returns c =
    let l = c.loop-i in
    let xs = c.args.word.now in
    let made = l.invariant.1.made in
    let e = c.by_eights-last.ensures.made.size in
    bytes_by_byte (length xs) (accumulate (bit_at xs)) l.word made.size (λ k h. made.done k (omega arith))
