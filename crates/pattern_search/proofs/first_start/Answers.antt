-- What is left to try finds what the whole search finds: a start is passed or left where a slot of it is wrong.
use mathlib.Core.Path.{◌≡◌, sym, ap, ◌∙◌}
use Prim.Native.Nat.{ℕ}
use native.Mathlib.Omega.{arith}
use Rattle.bits.specs.Basics.{up_to}
use Rattle.bits.proofs.Laws.First.{first_end}
use Rattle.bits.specs.Pack.{bit_at}
use Rattle.pattern_search.specs.Starts.{missed}
use Rattle.pattern_search.proofs.Passing.{passed, left, here, more}
use Rattle.pattern_search.proofs.first_start.Goals as goal

pub start-init : goal.start-init
start-init c =
    let s = c in
    let a = c.args in
    let next = c.next_start-x.ensures in
    (next.most, passed a.b.now a.slots.now a.m.n a.m.first a.m.last a.from a.end s.requires a.from c.next_start-x.result next)

pub start-preserved : goal.start-preserved
start-preserved c =
    let s = c in
    let a = c.args in
    let o = c.start in
    let l = c.loop-i in
    let next = c.next_start-x-then-right-eq0.ensures in
    let r = c.right_from-right in
    let x : l.x ≡ o.x = l.invariant.0 in (
      next.most,
      left a.b.now a.slots.now a.m.n a.m.first a.m.last a.from a.end s.requires l.x l.i c.next_start-x-then-right-eq0.result (omega arith)
          (omega arith) (r.ensures.stop c.if-right-eq0.true) next
          ∙ ap (λ (y : ℕ). up_to (missed (bit_at a.slots.now) a.m.n a.b.now) y a.end) x
          ∙ o.invariant.1,
    )

pub loop-i-preserved : goal.loop-i-preserved
loop-i-preserved c =
    let a = c.args in
    let l = c.loop-i in
    let r = c.right_from-right in
    (l.invariant.0, r.ensures.room, more a.b.now a.slots.now l.x l.i a.m.n r.result r.ensures l.invariant.2)

pub returns-in-start : goal.returns-in-start
returns-in-start c =
    let s = c in
    let a = c.args in
    let o = c.start in
    let l = c.loop-i in
    let x : l.x ≡ o.x = l.invariant.0 in
    sym (here a.b.now a.slots.now a.m.n a.m.first a.m.last a.from a.end s.requires l.x (omega arith) (λ k h. l.invariant.2 k (omega arith)))
    ∙ ap (λ (y : ℕ). up_to (missed (bit_at a.slots.now) a.m.n a.b.now) y a.end) x
    ∙ o.invariant.1

pub returns : goal.returns
returns c =
    let a = c.args in
    let o = c.start in
    sym (first_end (missed (bit_at a.slots.now) a.m.n a.b.now) a.end o.x (omega arith) (omega arith)) ∙ o.invariant.1
