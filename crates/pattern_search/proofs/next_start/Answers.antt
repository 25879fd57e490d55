-- The starts that are passed have no pulse where the marker has its first one, or none where it has its last.
use mathlib.Core.Path.{sym, ◌∙◌}
use Prim.Native.Nat.{◌+◌}
use native.Mathlib.Omega.{arith}
use Rattle.bits.proofs.Laws.Window.{one_in}
use Rattle.pattern_search.proofs.Passing.{pulsed, next_begin, next_more}
use Rattle.pattern_search.proofs.next_start.Goals as goal

pub overflow_sub-at : goal.overflow_sub-at
overflow_sub-at c =
    let a = c.args in
    let i = one_in a.b.now (a.x + a.m.first) (a.end + a.m.first) (let o = c.requires.order in omega arith) in
    omega (arith, c.pulse_from.ensures)

pub loop-at-init : goal.loop-at-init
loop-at-init c =
    let a = c.args in
    next_begin a.b.now a.m.first a.m.last a.x a.end _ (pulsed a.b.now a.m.first a.x a.end c.pulse_from.result
    c.requires.order c.pulse_from.ensures)

pub overflow_sub-at-in-loop-at : goal.overflow_sub-at-in-loop-at
overflow_sub-at-in-loop-at c =
    let a = c.args in
    let l = c.loop-at in
    let i = one_in a.b.now (l.at + 1 + a.m.first) (a.end + a.m.first) (omega arith) in
    omega (arith, c.pulse_from-in-loop-at.ensures)

pub loop-at-smaller : goal.loop-at-smaller
loop-at-smaller c =
    let a = c.args in
    let l = c.loop-at in
    let p = pulsed a.b.now a.m.first (l.at + 1) a.end c.pulse_from-in-loop-at.result (omega arith) c.pulse_from-in-loop-at.ensures in
    let u = p.least in
    let v = p.most in
    omega arith

pub loop-at-preserved : goal.loop-at-preserved
loop-at-preserved c =
    let a = c.args in
    let l = c.loop-at in
    let p = pulsed a.b.now a.m.first (l.at + 1) a.end c.pulse_from-in-loop-at.result (omega arith) c.pulse_from-in-loop-at.ensures in
    next_more a.b.now a.m.first a.m.last a.x a.end l.at _ l.invariant
    (sym c.bit_at.ensures ∙ c.if-bit_at-ne0.false) p
