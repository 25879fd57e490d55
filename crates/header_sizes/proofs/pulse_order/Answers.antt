-- M is at most 256, so that the shift loses nothing.
use Prim.Native.Nat.{◌^◌, ◌≤◌}
use native.Mathlib.Omega.{arith}
use Rattle.header_sizes.specs.Quantities.{pulse_order}
use Rattle.header_sizes.proofs.Laws.Shape.{order_most}
use Rattle.header_sizes.proofs.pulse_order.Goals as goal

pub returns : goal.returns
unfolding pulse_order
returns c =
    let f = c.args.f in
    let most : 2 ^ f.bits ≤ 256 = order_most f c.requires in
    omega arith
