-- The bits before these are shifted out, and so are those after them.
use native.Mathlib.Omega.{arith}
use Rattle.pulses_rows.proofs.Pieces.{lone_piece}
use Rattle.pulses_rows.proofs.forties.lone_at.Goals as goal

pub returns : goal.returns
returns c = λ l.
    let s = c in
    let a = c.args in
    let room = c.requires.1 in
    lone_piece a.v a.skip a.group c.single.result s.ranges.v.fits room l (c.single.ensures (omega arith))
