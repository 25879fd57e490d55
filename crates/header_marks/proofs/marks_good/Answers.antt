-- The symbols passed are below M, so that the first that is not is still ahead.
use mathlib.Core.Path.{refl, sym, ap₂, ◌∙◌}
use Prim.Native.Nat.{ℕ}
use native.Mathlib.Omega.{arith}
use lib.ListN.{get_or}
use borrow.Author.Tests.{lt-ltb}
use Rattle.bits.proofs.Laws.First.{first_on}
use Rattle.header_questions.specs.Questions.{below, all_under, marks_good}
use Rattle.header_questions.proofs.Laws.Marks.{lent_le, under_no, under_yes}
use Rattle.header_marks.proofs.marks_good.Goals as goal

pub loop-i-init : goal.loop-i-init
loop-i-init c = refl

pub bounds-marker-i : goal.bounds-marker-i
bounds-marker-i c =
    let a = c.args in
    omega (arith, lent_le a.f a.marker.now)

pub overflow_cast-marker : goal.overflow_cast-marker
overflow_cast-marker c = omega (arith, c.type_inv.marker c.loop-i.i)

pub returns-then-order-marker : goal.returns-then-order-marker
unfolding marks_good
returns-then-order-marker c =
    let s = c in
    let l = c.loop-i in
    let order = c.pulse_order-order in
    let n = c.lent_marks-n in
    sym (under_no order.result n.result s.args.marker.now l.i (omega arith) c.if-order-marker.true l.invariant)
    ∙ ap₂ (λ (o n : ℕ). all_under o n s.args.marker.now) order.ensures n.ensures

pub loop-i-preserved : goal.loop-i-preserved
loop-i-preserved c =
    let l = c.loop-i in
    let order = c.pulse_order-order.result in
    let n = c.lent_marks-n.result in
    let marker = c.args.marker.now in
    first_on (below order marker) n l.i (omega arith) (lt-ltb (get_or marker l.i 0) order c.if-order-marker.false) ∙ l.invariant

pub returns : goal.returns
unfolding marks_good
returns c =
    let marker = c.args.marker.now in
    let l = c.loop-i in
    let order = c.pulse_order-order in
    let n = c.lent_marks-n in
    sym (under_yes order.result n.result marker l.i (omega arith) (omega arith) l.invariant)
    ∙ ap₂ (λ (o n : ℕ). all_under o n marker) order.ensures n.ensures
