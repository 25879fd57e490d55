-- S is not 0.
use mathlib.Core.Path.{ap₂}
use Prim.Native.Nat.{ℕ, ◌/◌}
use native.Mathlib.Omega.{arith}
use Rattle.header_sizes.specs.Quantities.{line_count}
use Rattle.header_sizes.proofs.Laws.Shape.{symbols_least}
use Rattle.header_sizes.proofs.line_count.Goals as goal

pub nonzero_div-result : goal.nonzero_div-result
nonzero_div-result c = omega (arith, symbols_least c.args.f c.requires.shaped)

pub returns : goal.returns
unfolding line_count
returns c = ap₂ (λ (a b : ℕ). a / b) c.sequence_length.ensures c.symbols_per_word.ensures
