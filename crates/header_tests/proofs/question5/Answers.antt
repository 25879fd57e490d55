-- S is not 0, and the remainder is the one that the question asks for.
use mathlib.Core.Path.{ap₂}
use Prim.Native.Nat.{ℕ, ◌%◌}
use native.Mathlib.Omega.{arith}
use lib.Dec.{eqb}
use Rattle.header_questions.specs.Questions.{question5}
use Rattle.header_sizes.proofs.Laws.Shape.{symbols_least}
use Rattle.header_tests.proofs.question5.Goals as goal

pub nonzero_rem-result : goal.nonzero_rem-result
nonzero_rem-result c = omega (arith, symbols_least c.args.f c.requires)

pub returns : goal.returns
unfolding question5
returns c = ap₂ (λ (n s : ℕ). eqb (n % s) 0) c.interleaver_delay.ensures c.symbols_per_word.ensures
