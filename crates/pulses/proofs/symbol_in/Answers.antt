-- The code is the definition.
use mathlib.Core.Path.{refl}
use Prim.Native.Nat.{ℕ, ◌+◌, ◌*◌}
use native.Mathlib.Omega.{arith}
use borrow.Author.Tests.{lt-ltb, le-ltb, eq-eqb, ne_eqb}
use Rattle.bits.proofs.Laws.Window.{one_in}
use Rattle.pulses.specs.Pulses.{symbol_in}
use Rattle.pulses.proofs.symbol_in.Goals as goal

pub overflow_sub-result : goal.overflow_sub-result
overflow_sub-result c =
    let a = c.args in
    let x : ℕ = a.s * a.group in
    let l = (one_in a.b.now x (x + a.group) (omega arith)).0 in
    let e = c.first_one-q.ensures in
    omega arith

pub returns-then-first_one-end : goal.returns-then-first_one-end
unfolding symbol_in
returns-then-first_one-end c = rw (← c.first_one-q.ensures, lt-ltb _ _ c.if-q-guard.true, ← c.first_one.ensures, eq-eqb _ _ c.if-first_one-end.true) refl

pub returns-else-first_one-end : goal.returns-else-first_one-end
unfolding symbol_in
returns-else-first_one-end c = rw (← c.first_one-q.ensures, lt-ltb _ _ c.if-q-guard.true, ← c.first_one.ensures, ne_eqb _ _ c.if-first_one-end.false) refl

pub returns-else-q-guard : goal.returns-else-q-guard
unfolding symbol_in
returns-else-q-guard c = rw (← c.first_one-q.ensures, le-ltb _ _ c.if-q-guard.false) refl
