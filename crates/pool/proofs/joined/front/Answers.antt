-- A shift down and up leaves the first bits.
use mathlib.Core.Path.{ap, ◌∙◌}
use Prim.Native.Nat.{ℕ, ◌+◌, ◌-◌, ◌*◌, ◌/◌, ◌%◌, ◌^◌}
use native.Mathlib.Omega.{arith}
use Rattle.bits.proofs.Laws.Pack.{bit_lt}
use Rattle.bits.specs.Inner.{bits_from}
use Rattle.pulses.proofs.Laws.Lone.{kept}
use Rattle.pool.proofs.joined.front.Goals as goal

pub returns : goal.returns
returns c =
    let a = c.args in
    let f : ℕ → ℕ = bits_from a.b.now (8 * a.at) in
    ap (λ (v : ℕ). v / 2 ^ (64 - a.width) * 2 ^ (64 - a.width) % 2 ^ 64) c.eight.ensures
    ∙ kept f (λ t. bit_lt a.b.now (8 * a.at + t)) a.width (omega arith)
