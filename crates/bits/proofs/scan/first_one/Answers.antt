-- What is left to scan finds what the whole scan finds: an empty window is passed, and the first one of another is that one.
use mathlib.Core.Path.{◌≡◌, sym, ap, ◌∙◌}
use Prim.Native.Nat.{ℕ, ◌+◌, ◌-◌, min}
use native.Mathlib.Omega.{arith}
use lib.ListN.{length}
use Rattle.bits.specs.Basics.{up_to}
use Rattle.bits.proofs.Laws.First.{first_end}
use Rattle.bits.specs.Pack.{clear_at, first_set}
use Rattle.bits.specs.Inner.{lesser, reach}
use Rattle.bits.proofs.Laws.Window.{lesser_min, window_pass, window_stop}
use Rattle.bits.proofs.Windows.{reach_is}
use Rattle.bits.proofs.scan.first_one.Goals as goal

pub returns-then-v-ne0 : goal.returns-then-v-ne0
unfolding first_set
returns-then-v-ne0 c =
    let a = c.args in
    let l = c.loop-at in
    let w : ℕ = reach (length a.b.now) l.at in
    let r : ℕ = c.leading.result in
    ap (λ (n : ℕ). l.at + n) (c.min.ensures ∙ sym (lesser_min r (a.end - l.at)))
    ∙ sym (window_stop a.b.now l.at a.end w r (omega arith) (rw c.ahead-v.ensures at c.leading.ensures))
    ∙ l.invariant.1

pub loop-at-smaller : goal.loop-at-smaller
loop-at-smaller c =
    let w = reach_is (length c.args.b.now) c.loop-at.at in
    let r = c.reach_of.ensures in
    let e = c.min-at.ensures in
    omega arith

pub loop-at-preserved : goal.loop-at-preserved
loop-at-preserved c =
    let a = c.args in
    let l = c.loop-at in
    let w : ℕ = reach (length a.b.now) l.at in
    let e : c.min-at.result ≡ lesser w (a.end - l.at) =
    c.min-at.ensures ∙ ap (λ (n : ℕ). min n (a.end - l.at)) c.reach_of.ensures ∙ sym (lesser_min w (a.end - l.at)) in (
      (let f = c.min-at.ensures in omega arith),
      ap (λ (n : ℕ). up_to (clear_at a.b.now) (l.at + n) a.end) e
          ∙ window_pass a.b.now l.at a.end w (omega arith) (reach_is (length a.b.now) l.at).1 (sym c.ahead-v.ensures ∙ c.if-v-ne0.false)
          ∙ l.invariant.1,
    )

pub returns : goal.returns
unfolding first_set
returns c =
    let a = c.args in
    let l = c.loop-at in
    let e : l.at ≡ a.end = omega arith in
    e ∙ sym (first_end (clear_at a.b.now) a.end l.at (omega arith) (omega arith)) ∙ l.invariant.1
