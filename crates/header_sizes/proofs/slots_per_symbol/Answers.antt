-- M is at most 256.
use mathlib.Core.Path.{ap}
use Prim.Native.Nat.{ℕ, ◌+◌, ◌/◌}
use native.Mathlib.Omega.{arith}
use Rattle.header_sizes.specs.Quantities.{slots_per_symbol}
use Rattle.header_sizes.proofs.Laws.Shape.{order_most}
use Rattle.header_sizes.proofs.slots_per_symbol.Goals as goal

pub overflow_add-result : goal.overflow_add-result
overflow_add-result c = omega (arith, order_most c.args.f c.requires)

pub returns : goal.returns
unfolding slots_per_symbol
returns c = ap (λ (m : ℕ). m + m / 4) c.pulse_order-m.ensures
