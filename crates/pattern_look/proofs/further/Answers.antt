-- What is left to go through finds what the whole scan finds: eight empty bytes are passed, and the first pulse of others is the first of all.
use mathlib.Core.Path.{◌≡◌, ap, ◌∙◌}
use Prim.Native.Nat.{ℕ, ◌+◌, ◌*◌, ◌/◌, ◌≤◌}
use native.Mathlib.Omega.{arith}
use Rattle.bits.specs.Basics.{up_to}
use Rattle.bits.specs.Pack.{clear_at, first_set}
use Rattle.pattern_empty.proofs.Blank.{skipped, eight_pass, eight_stop}
use Rattle.pattern_look.proofs.further.Goals as goal

pub returns-then-v-ne0 : goal.returns-then-v-ne0
unfolding first_set
returns-then-v-ne0 c =
    let a = c.args in
    let l = c.loop-k in
    let i : ℕ = a.x / 8 + 8 * l.k in
    let room : 8 * i + 64 ≤ a.end = omega arith in
    eight_stop a.b.now i a.end c.eight-v.result room c.eight-v.ensures c.leading.result c.leading.ensures ∙ l.invariant

pub loop-k-preserved : goal.loop-k-preserved
loop-k-preserved c =
    let a = c.args in
    let l = c.loop-k in
    let i : ℕ = a.x / 8 + 8 * l.k in
    let room : 8 * i + 64 ≤ a.end = omega arith in
    let next : 8 * (a.x / 8 + 8 * (l.k + 1)) ≡ 8 * (i + 8) = omega arith in
    ap (λ (k : ℕ). up_to (clear_at a.b.now) k a.end) next ∙ eight_pass a.b.now i a.end c.eight-v.result room c.eight-v.ensures c.if-v-ne0.false ∙ l.invariant

pub returns : goal.returns
unfolding first_set
returns c =
    let a = c.args in
    let l = c.loop-k in
    let e : l.k ≡ c.min-eights.result / 8 = omega arith in
    let p = c.past_empty-rest in
    c.first_one-2.ensures ∙ skipped a.b.now (8 * (a.x / 8 + 8 * (c.min-eights.result / 8))) p.result a.end p.ensures.0 p.ensures.1 p.ensures.2 ∙ rw e at l.invariant
