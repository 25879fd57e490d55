-- The bits, rounded up to whole blocks: k is not 0, and the sum is small.
use mathlib.Core.Path.{ap₂}
use Prim.Native.Nat.{ℕ, ◌+◌, ◌-◌, ◌/◌}
use native.Mathlib.Omega.{arith}
use Rattle.sizes.proofs.Laws.Rate.{info_le}
use Rattle.header_sizes.specs.Quantities.{block_count}
use Rattle.header_sizes.proofs.Laws.Bounds.{info_some, marked_most}
use Rattle.header_sizes.proofs.block_count.Goals as goal

pub overflow_sub-result : goal.overflow_sub-result
overflow_sub-result c = omega (arith, info_some c.args.f c.requires)

pub overflow_add-result : goal.overflow_add-result
overflow_add-result c =
    let f = c.args.f in
    omega (arith, marked_most f c.requires, info_le f.rate)

pub nonzero_div-result : goal.nonzero_div-result
nonzero_div-result c = omega (arith, info_some c.args.f c.requires)

pub returns : goal.returns
unfolding block_count
returns c = ap₂ (λ (t k : ℕ). (t + (k - 1)) / k) c.marked_bits.ensures c.info_bits-k.ensures
