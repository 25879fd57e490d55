-- A slot that has pulses alone is in front.
use mathlib.Core.Path.{◌≡◌, sym, ap, ◌∙◌}
use Prim.Native.Nat.{ℕ, min}
use native.Mathlib.Omega.{arith}
use lib.Dec.{ltb}
use Rattle.bits.specs.Basics.{pick}
use Rattle.bits.specs.Inner.{lesser}
use Rattle.bits.proofs.Laws.Window.{lesser_min}
use Rattle.pool.specs.Inner.{lit}
use Rattle.pool.specs.Pooled.{pooled}
use Rattle.pool.proofs.Single.{pooled_alone}
use Rattle.pool.proofs.pooled.Goals as goal

pub returns-then-q-order : goal.returns-then-q-order
unfolding lit
returns-then-q-order c =
    let s = c in
    let a = c.args in
    let z = c.requires.of_group in
    sym (pooled_alone a.b.now a.copies a.group a.order a.s c.alone-q.result (omega arith) (omega arith) (c.alone-q.ensures (omega arith)))

smaller : (x y : ℕ) → min x y ≡ pick (ltb x y) x y
unfolding lesser
smaller x y = sym (lesser_min x y)

pub returns : goal.returns
unfolding pooled
returns c =
    let a = c.args in
    c.min.ensures ∙ smaller _ _ ∙ ap (λ (q : ℕ). pick (ltb q a.order) q a.order) c.counted.ensures
