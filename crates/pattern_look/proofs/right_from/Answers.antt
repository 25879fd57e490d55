-- Two windows side by side.
use mathlib.Core.Path.{◌≡◌, sym, ap₂, ◌∙◌}
use mathlib.Core.List.{List}
use Prim.Native.Nat.{ℕ, ◌-◌, ◌≤◌}
use native.Mathlib.Omega.{arith}
use lib.ListN.{length}
use lib.Bits.{bit_xor}
use Rattle.bits.specs.Inner.{lesser}
use Rattle.bits.proofs.Laws.Window.{lesser_min}
use Rattle.pattern_look.specs.Inner.{Looks, shows}
use Rattle.pattern_look.proofs.Sight.{shows_is, Sight, sight, look_all, look_some}
use Rattle.pattern_look.proofs.right_from.Goals as goal

-- what is compared
compared : (b marker : List ℕ) (y i n w u seen most : ℕ) → Looks b y marker i n → w ≡ shows (length b) y → u ≡ shows (length marker) i → seen ≡ lesser w u
    → most ≡ lesser seen (n - i) → Sight i n (shows (length b) y) (shows (length marker) i) most
compared b marker y i n w u seen most s ew eu es em =
    let v : ℕ = shows (length b) y in
    let x : ℕ = shows (length marker) i in
    let hv = shows_is (length b) y s.capture.eight s.capture.there in
    let hx = shows_is (length marker) i s.eight (let z = s.below in let y = s.room in omega arith) in
    sight i n v x seen most s.below hv.0 hx.0 (es ∙ ap₂ lesser ew eu) em

pub returns-then-v-ne0 : goal.returns-then-v-ne0
returns-then-v-ne0 c =
    let s = c in
    let a = c.args in
    let most = c.min-most in
    let k = compared a.b.now a.marker.now a.y a.i a.n c.shown.result
    c.shown-2.result
    c.min-seen.result most.result s.requires
    c.shown.ensures
    c.shown-2.ensures
    (c.min-seen.ensures ∙ sym (lesser_min _ _)) (most.ensures ∙ sym (lesser_min _ _)) in
    rw (c.min.ensures ∙ sym (lesser_min _ _))
    (look_some a.b.now a.y a.marker.now a.i a.n (shows (length a.b.now) a.y) (shows (length a.marker.now) a.i)
    most.result k
    c.leading.result
    (rw (c.look.ensures, c.look-2.ensures) at c.leading.ensures))

pub returns : goal.returns
returns c =
    let s = c in
    let a = c.args in
    let most = c.min-most in
    let k = compared a.b.now a.marker.now a.y a.i a.n c.shown.result
    c.shown-2.result
    c.min-seen.result most.result s.requires
    c.shown.ensures c.shown-2.ensures
    (c.min-seen.ensures ∙ sym (lesser_min _ _)) (most.ensures ∙ sym (lesser_min _ _)) in
    let w = shows_is (length a.b.now) a.y s.requires.capture.eight s.requires.capture.there in
    let small : most.result ≤ 64 = let z = k.capture in omega arith in
    look_all a.b.now a.y a.marker.now a.i a.n (shows (length a.b.now) a.y) (shows (length a.marker.now) a.i)
    most.result k
    small (sym (ap₂ bit_xor c.look.ensures c.look-2.ensures) ∙ c.if-v-ne0.false)
