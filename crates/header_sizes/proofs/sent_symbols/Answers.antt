-- There are fewer than 2^28 of them.
use mathlib.Core.Path.{◌≡◌, ap}
use Prim.Native.Nat.{ℕ, ◌*◌}
use native.Mathlib.Omega.{arith}
use Rattle.header_sizes.specs.Quantities.{sent_symbols}
use Rattle.header_sizes.proofs.Laws.Bounds.{sent_most}
use Rattle.header_sizes.proofs.sent_symbols.Goals as goal

pub returns : goal.returns
unfolding sent_symbols
returns c = ap (λ (n : ℕ). n * c.args.f.copies) c.symbol_count.ensures

pub overflow_mul-result : goal.overflow_mul-result
overflow_mul-result c =
    let f = c.args.f in
    let e : c.symbol_count.result * f.copies ≡ sent_symbols f = returns c in
    omega (arith, sent_most f c.requires.0 c.requires.1)
