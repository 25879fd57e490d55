-- There are fewer than 2^36 slots.
use mathlib.Core.Path.{◌≡◌, ap₂}
use Prim.Native.Nat.{ℕ, ◌*◌}
use native.Mathlib.Omega.{arith}
use Rattle.header_sizes.specs.Quantities.{sent_symbols, slot_count}
use Rattle.header_sizes.proofs.Laws.Bounds.{slot_most}
use Rattle.header_sizes.proofs.slot_count.Goals as goal

pub returns : goal.returns
unfolding slot_count sent_symbols
returns c = ap₂ (λ (a b : ℕ). a * b) c.sent_symbols.ensures c.slots_per_symbol.ensures

pub overflow_mul-result : goal.overflow_mul-result
overflow_mul-result c =
    let f = c.args.f in
    let e : c.sent_symbols.result * c.slots_per_symbol.result ≡ slot_count f = returns c in
    omega (arith, slot_most f c.requires.0 c.requires.1)
