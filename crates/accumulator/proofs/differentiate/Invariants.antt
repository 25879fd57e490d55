use mathlib.Core.Path.{◌≡◌}
use mathlib.Core.List.{List}
use Prim.Native.Nat.{ℕ, ◌+◌, ◌*◌, ◌<◌}
use lib.ListN.{length, get_or}
use Rattle.bits.specs.Pack.{val, bit_at}
use Rattle.accumulator.specs.Accumulator.{differentiate}
use Rattle.accumulator.specs.Inner.{behind}
use Rattle.accumulator.proofs.differentiate.Given as goal

-- byte k of the inputs
abbrev pub made : List ℕ → ℕ → ℕ
made xs k = val (λ t. differentiate (bit_at xs) (8 * k + t)) 8

abbrev pub invariant-loop-i : goal.invariant-loop-i
invariant-loop-i l = (l.prior ≡ behind 0 (bit_at l.word) (8 * l.i)) × (length l.inputs ≡ length l.word) × ((k : ℕ) → k < l.i → get_or l.inputs k 0 ≡ made l.word k)
