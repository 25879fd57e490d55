-- 64 marked frames of 16,416 bits are far below 2^64.
use mathlib.Core.Path.{refl}
use Prim.Native.Nat.{◌*◌, ◌≤◌}
use native.Mathlib.Omega.{arith}
use Rattle.sizes.specs.Sizes.{span}
use Rattle.header_sizes.specs.Quantities.{marked_bits}
use Rattle.header_sizes.proofs.Laws.Bounds.{marked_most}
use Rattle.header_sizes.proofs.marked_bits.Goals as goal

pub overflow_mul-result-2 : goal.overflow_mul-result-2
unfolding marked_bits
overflow_mul-result-2 c =
    let f = c.args.f in
    let most : f.frames * span f.size ≤ 1050624 = marked_most f c.requires in
    omega arith

pub returns : goal.returns
unfolding marked_bits
returns c = refl
