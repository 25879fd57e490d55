-- Copy after copy.
use mathlib.Core.Path.{◌≡◌, ap, ◌∙◌}
use Prim.Native.Nat.{ℕ, ◌+◌, ◌*◌}
use native.Mathlib.Omega.{arith}
use Rattle.bits.specs.Pack.{bit_at}
use Rattle.bits.proofs.Laws.Pack.{bit_lt}
use Rattle.bits.specs.Count.{weight}
use Rattle.pool.specs.Pooled.{count}
use Rattle.pool.proofs.Joining.{count_none, count_more}
use Rattle.pool.proofs.counts.count_at.Goals as goal

pub loop-c-init : goal.loop-c-init
loop-c-init c = (omega arith, count_none _)

pub loop-c-preserved : goal.loop-c-preserved
loop-c-preserved c =
    let a = c.args in
    let l = c.loop-c in
    let f : ℕ → ℕ = λ c. bit_at a.b.now ((a.s * a.copies + c) * a.group + a.r) in
    let e = c.from-v.ensures ∙ c.bit_at.ensures ∙ ap (bit_at a.b.now) c.slot.ensures in
    let u = bit_lt a.b.now ((a.s * a.copies + l.c) * a.group + a.r) in
    (omega arith, count_more f l.c l.v c.from-v.result l.invariant.1 e)

pub returns : goal.returns
unfolding count
returns c =
    let a = c.args in
    let l = c.loop-c in
    let e : l.c ≡ a.copies = omega arith in
    l.invariant.1 ∙ ap (weight (λ c. bit_at a.b.now ((a.s * a.copies + c) * a.group + a.r))) e
