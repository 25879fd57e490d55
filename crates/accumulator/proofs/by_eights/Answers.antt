-- At the loop's head the first 8 j bytes are made, the others as they were given, and `last` is the output before bit 64 j.
use mathlib.Core.Path.{◌≡◌, ap, ◌∙◌}
use Prim.Native.Nat.{ℕ, ◌+◌, ◌*◌, ◌%◌}
use native.Mathlib.Omega.{arith}
use lib.Bits.{and_mask}
use Rattle.bits.specs.Pack.{val, bit_of}
use Rattle.accumulator.specs.Inner.{accumulate_from, SoFar}
use Rattle.accumulator.proofs.Places.{so_far_none, last_bit, so_far_eight}
use Rattle.accumulator.proofs.by_eights.Goals as goal

pub loop-j-init : goal.loop-j-init
loop-j-init c = so_far_none c.args.word.now

pub summed_64-sums-requires : goal.summed_64-sums-requires
summed_64-sums-requires c = last_bit c.loop-j.invariant

pub loop-j-preserved : goal.loop-j-preserved
loop-j-preserved c =
    let l = c.loop-j in
    let xs = c.args.word.now in
    let o = c.summed_64-sums in
    let after = c.put_eight.new.out in
    let eq = o.ensures ∙ ap (λ (v : ℕ). val (accumulate_from l.last (bit_of v)) 64) c.eight.ensures in
    let e : 8 * l.j + 8 ≡ 8 * (l.j + 1) = omega arith in
    let made : SoFar xs after (8 * (l.j + 1)) (o.result % 2) = rw e at (so_far_eight l.invariant o.result eq after c.put_eight.ensures) in
    rw (and_mask o.result 1) made
