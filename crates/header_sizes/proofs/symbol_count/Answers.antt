-- There are fewer than 2^23 symbols.
use mathlib.Core.Path.{◌≡◌, ap₂}
use Prim.Native.Nat.{ℕ, ◌+◌, ◌*◌}
use native.Mathlib.Omega.{arith}
use Rattle.header_sizes.specs.Quantities.{symbol_count}
use Rattle.header_sizes.proofs.Laws.Shape.{symbols_most}
use Rattle.header_sizes.proofs.Laws.Bounds.{symbol_most}
use Rattle.header_sizes.proofs.symbol_count.Goals as goal

pub returns : goal.returns
unfolding symbol_count
returns c =
    ap₂ (λ (r s : ℕ). r * (s + c.args.f.markers)) c.line_count.ensures c.symbols_per_word.ensures

pub overflow_add-result : goal.overflow_add-result
overflow_add-result c = omega (arith, symbols_most c.args.f c.requires.shaped)

pub overflow_mul-result : goal.overflow_mul-result
overflow_mul-result c =
    let f = c.args.f in
    let e : c.line_count.result * (c.symbols_per_word.result + f.markers) ≡ symbol_count f = returns c in
    omega (arith, symbol_most f c.requires)
