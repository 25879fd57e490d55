-- A space, and the digits after it.
use mathlib.Core.Path.{◌∙◌}
use Prim.Native.Nat.{◌<◌}
use native.Mathlib.Omega.{arith}
use lib.ListN.{length, length-set}
use Rattle.sheet.proofs.Pieces.{put_spaced}
use Rattle.sheet.proofs.text.put_item.Goals as goal

pub put_decimal-requires : goal.put_decimal-requires
put_decimal-requires c = simp length-set (omega arith)

pub shape_of-out : goal.shape_of-out
shape_of-out c = let a = c.args in c.put_decimal.auto.out ∙ length-set a.out.now a.at 32

pub returns : goal.returns
returns c =
    let a = c.args in
    let l : a.at < length a.out.now = omega arith in
    put_spaced a.out.now _ a.at a.n _ l c.put_decimal.ensures
