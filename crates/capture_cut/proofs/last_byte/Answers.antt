-- Eight slots lie in two bytes, or the last byte has what is left of them.
use Prim.Native.Nat.{◌/◌}
use native.Mathlib.Omega.{arith}
use Rattle.capture_cut.proofs.Bytes.{end_byte}
use Rattle.capture_cut.proofs.last_byte.Goals as goal

pub returns : goal.returns
returns c =
    let a = c.args in
    end_byte a.b.now a.y (c.type_inv.b (a.y / 8)).fits (omega arith)
