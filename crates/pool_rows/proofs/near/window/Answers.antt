-- Eight bytes, and the bits before x shifted out.
use Rattle.pool_rows.proofs.Worth.{window_bit}
use Rattle.pool_rows.proofs.near.window.Goals as goal

pub returns : goal.returns
returns c = λ i l.
    let a = c.args in
    window_bit a.b.now a.x i c.eight.result l c.eight.ensures
