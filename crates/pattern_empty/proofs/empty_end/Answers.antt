-- All bytes that were passed are 0.
use mathlib.Core.Path.{◌≡◌}
use mathlib.Core.Logic.{⊎_elim}
use Prim.Native.Nat.{ℕ, ◌+◌, ◌-◌, ◌*◌, ◌≤◌, ◌<◌}
use native.Mathlib.Omega.{arith}
use Rattle.bits.proofs.Laws.Choice.{lt_or_le}
use Rattle.pattern_empty.proofs.empty_end.Goals as goal

pub loop-k-preserved : goal.loop-k-preserved
loop-k-preserved c = λ j g m.
    let l = c.loop-k in
    let at : ℕ = c.args.i + 128 * l.k in
    ⊎_elim
    (λ (q : j < at). l.invariant j g q)
    (λ (q : at ≤ j).
    let e : j ≡ at + (j - at) = omega arith in
    rw e (c.any_of.ensures c.if-any_of-ne0.false (j - at) (omega arith)))
    (lt_or_le j at)
