-- One row more is added at each turn; the table's rule is a computed test.
use mathlib.Core.Path.{◌≡◌, sym, ap, ◌∙◌}
use native.Mathlib.Omega.{arith}
use Rattle.bits.specs.Pack.{val}
use Rattle.ldpc.specs.Code.{rows, row_bit}
use Rattle.ldpc.proofs.Rows.{parity_of, table_right, parity_none, parity_more, parity_all}
use Rattle.ldpc.proofs.parity.Goals as goal

pub loop-i-init : goal.loop-i-init
unfolding val rows row_bit
loop-i-init c = (table_right _ tt, sym (parity_none _))

pub loop-i-preserved : goal.loop-i-preserved
loop-i-preserved c =
    let l = c.loop-i in
    let frame = c.args.frame in (
      l.invariant.0,
      parity_more _ l.invariant.0 frame l.i l.p (omega arith) l.invariant.1,
    )

pub returns : goal.returns
returns c =
    let l = c.loop-i in
    let frame = c.args.frame in
    let e : l.i ≡ 64 = omega arith in
    l.invariant.1 ∙ ap (parity_of frame) e ∙ parity_all frame
