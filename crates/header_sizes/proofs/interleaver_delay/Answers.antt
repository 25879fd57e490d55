-- 128 · 127 · 256 is far below 2^64.
use mathlib.Core.Path.{refl}
use Prim.Native.Nat.{◌-◌, ◌*◌, ◌≤◌}
use native.Mathlib.Omega.{arith}
use Rattle.header_sizes.specs.Quantities.{interleaver_delay}
use Rattle.header_sizes.proofs.Laws.Shape.{pairs_most, spread_most}
use Rattle.header_sizes.proofs.interleaver_delay.Goals as goal

pub overflow_mul-result : goal.overflow_mul-result
overflow_mul-result c = omega (arith, pairs_most c.args.f c.requires)

pub overflow_mul-result-2 : goal.overflow_mul-result-2
unfolding interleaver_delay
overflow_mul-result-2 c =
    let f = c.args.f in
    let most : f.rows * (f.rows - 1) * f.step ≤ 4161536 = spread_most f c.requires in
    omega arith

pub returns : goal.returns
unfolding interleaver_delay
returns c = refl
