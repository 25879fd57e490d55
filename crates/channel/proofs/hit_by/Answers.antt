-- A place tells its symbol's delay, so the symbol is a difference: `hit_is`.
use mathlib.Core.Path.{sym, refl, ◌∙◌}
use mathlib.Core.Path.{◌≡◌}
use mathlib.Core.Logic.{⊎_elim}
use Prim.Native.Nat.{ℕ, ◌*◌, ◌-◌, ◌≤◌, ◌<◌}
use Rattle.bits.proofs.Laws.Choice.{lt_or_le}
use native.Mathlib.Omega.{arith}
use borrow.Author.Tests.{lt-ltb, le-ltb}
use Rattle.channel.proofs.Laws.Places.{source, hit_is}
use Rattle.channel.proofs.hit_by.Goals as goal

pub returns-then-x-delay : goal.returns-then-x-delay
unfolding source
returns-then-x-delay c g o =
    let s = c in
    let a = c.args in
    sym (hit_is g a.x ∙ rw (o.rows_are, o.step_is, o.total_is, ← s.requires.remainder, lt-ltb _ _ c.if-x-delay.true) refl)

pub returns : goal.returns
unfolding source
returns c g o =
    let s = c in
    let a = c.args in
    let d : ℕ = a.x - a.r * (a.step * a.rows) in
    sym (hit_is g a.x ∙ rw (o.rows_are, o.step_is, o.total_is, ← s.requires.remainder, le-ltb _ _ c.if-x-delay.false) (⊎_elim
    (λ (l : d < a.total). let e = c.min.ensures in let m : c.min.result ≡ d = omega arith in rw (lt-ltb _ _ l) (sym m))
    (λ (l : a.total ≤ d). let e = c.min.ensures in let m : c.min.result ≡ a.total = omega arith in rw (le-ltb _ _ l) (sym m))
    (lt_or_le d a.total)))
