-- The slots, rounded up to whole bytes.
use mathlib.Core.Path.{ap}
use Prim.Native.Nat.{ℕ, ◌+◌, ◌/◌}
use native.Mathlib.Omega.{arith}
use Rattle.header_sizes.specs.Quantities.{slot_bytes}
use Rattle.header_sizes.proofs.Laws.Bounds.{slot_most}
use Rattle.header_sizes.proofs.slot_bytes.Goals as goal

pub overflow_add-result : goal.overflow_add-result
overflow_add-result c = omega (arith, slot_most c.args.f c.requires.0 c.requires.1)

pub returns : goal.returns
unfolding slot_bytes
returns c = ap (λ (n : ℕ). (n + 7) / 8) c.slot_count.ensures
