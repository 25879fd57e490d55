-- The slot is worth 3 and the others 1 at most; or it is worth 1 and the others nothing.
use native.Mathlib.Omega.{arith}
use Rattle.pool_rows.proofs.Worth.{worth_most}
use Rattle.pool_rows.proofs.near.settled.Goals as goal

pub returns : goal.returns
returns c = λ l i h e.
    let s = c in
    let a = c.args in
    worth_most a.any a.several a.group c.either.result c.single.result s.ranges.any.fits s.ranges.several.fits s.requires.1 l c.either.ensures (c.single.ensures (omega arith)) i h e
