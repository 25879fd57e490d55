-- A column of the row more.
use Prim.Native.Nat.{◌+◌, ◌*◌, ◌<◌}
use native.Mathlib.Omega.{arith}
use Rattle.bits.proofs.Laws.Table.{fill}
use Rattle.interleaver_writer.specs.Inner.{seen_out}
use Rattle.interleaver_columns.proofs.Begins.{begin_lt}
use Rattle.interleaver_writer.proofs.Writing.{seen_made}
use Rattle.interleaver_writer.proofs.out.planes.Goals as goal

pub overflow_add-seen-in-loop-k : goal.overflow_add-seen-in-loop-k
overflow_add-seen-in-loop-k c =
    let q = 9 * c.loop-m.m + c.loop-k.k in
    omega (arith, c.requires.1.1 q (omega arith), begin_lt q)

pub bounds-v-from : goal.bounds-v-from
bounds-v-from c =
    let q = 9 * c.loop-m.m + c.loop-k.k in
    omega (arith, c.requires.1.1 q (omega arith), begin_lt q)

pub loop-k-preserved : goal.loop-k-preserved
loop-k-preserved c =
    let l = c.loop-k in
    let v = c.args.v.now in
    let m = c.loop-m.m in
    let n = c.loop-n.n in
    let k : l.k < 9 = omega arith in
    let e = c.requires.1.1 (9 * m + l.k) (omega arith) in
    λ j g. fill l.seen (seen_out v) (270 * m + 9 * n + l.k) _ (omega arith) (seen_made v m n l.k _ (omega arith) (omega arith) k e) l.invariant j (omega arith)
