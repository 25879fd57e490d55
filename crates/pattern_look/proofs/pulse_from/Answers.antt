-- The first pulse of a look is the first of all; where it shows none, what is left after it finds what the whole scan finds.
use mathlib.Core.Path.{◌≡◌, sym, ap, ◌∙◌}
use Prim.Native.Nat.{ℕ, ◌+◌, ◌-◌}
use native.Mathlib.Omega.{arith}
use lib.ListN.{length}
use Rattle.bits.specs.Basics.{up_to}
use Rattle.bits.specs.Pack.{clear_at, first_set}
use Rattle.bits.specs.Inner.{lesser}
use Rattle.bits.proofs.Laws.First.{first_end}
use Rattle.bits.proofs.Laws.Window.{lesser_min, window_pass, window_stop}
use Rattle.pattern_look.specs.Inner.{shows}
use Rattle.pattern_look.proofs.Sight.{shows_is}
use Rattle.pattern_look.proofs.pulse_from.Goals as goal

pub returns-then-x-end : goal.returns-then-x-end
unfolding first_set
returns-then-x-end c =
    let a = c.args in
    let o = c.requires.order in
    let e : a.x ≡ a.end = omega arith in
    e ∙ sym (first_end (clear_at a.b.now) a.end a.x (omega arith) o)

pub returns-then-v-ne0 : goal.returns-then-v-ne0
unfolding first_set
returns-then-v-ne0 c =
    let s = c in
    let a = c.args in
    ap (λ (n : ℕ). a.x + n) (c.min.ensures ∙ sym (lesser_min _ _))
    ∙ sym (window_stop a.b.now a.x a.end (shows (length a.b.now) a.x) c.leading.result s.requires.order
    (rw c.look-v.ensures at c.leading.ensures))

pub returns : goal.returns
unfolding first_set
returns c =
    let s = c in
    let a = c.args in
    let w : ℕ = shows (length a.b.now) a.x in
    let m = c.requires.room in
    let z = shows_is (length a.b.now) a.x s.requires.eight (omega arith) in
    let n : c.min-2.result ≡ lesser w (a.end - a.x) =
    (c.min-2.ensures ∙ sym (lesser_min _ _)) ∙ ap (λ (k : ℕ). lesser k (a.end - a.x)) c.shown.ensures in
    c.further.ensures
    ∙ ap (λ (k : ℕ). up_to (clear_at a.b.now) (a.x + k) a.end) n
    ∙ window_pass a.b.now a.x a.end w s.requires.order z.1 (sym c.look-v.ensures ∙ c.if-v-ne0.false)
