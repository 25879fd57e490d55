-- A single one in the first eight bytes, and none in the other two.
use Prim.Native.Nat.{◌+◌, ◌*◌}
use lib.ListN.{get_or}
use Rattle.bits.proofs.Laws.Sum.{or_zero}
use Rattle.pulses_rows.proofs.Tens.{ten_bytes}
use Rattle.pulses_rows.proofs.eighties.eighty.Goals as goal

pub returns : goal.returns
returns c = λ l.
    let a = c.args in
    let z = or_zero (get_or a.b.now (10 * a.s + 8) 0) (get_or a.b.now (10 * a.s + 9) 0) c.if-b-at-ne0.false in
    ten_bytes a.b.now a.s c.single.result c.eight.result l c.eight.ensures (c.single.ensures l) z.0 z.1
