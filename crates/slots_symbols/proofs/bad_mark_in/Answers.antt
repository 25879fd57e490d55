-- What is left to ask finds what the whole row finds.
use mathlib.Core.Path.{◌≡◌, sym, ap, ◌∙◌}
use mathlib.Core.Bool.{Bool}
use Prim.Native.Nat.{ℕ, ◌+◌, ◌*◌, ◌≤◌}
use native.Mathlib.Omega.{arith}
use Rattle.bits.specs.Basics.{up_to}
use Rattle.bits.proofs.Laws.First.{first_on, first_here, first_end}
use Rattle.slots.proofs.Laws.Bounds.{bounds, Bounds}
use Rattle.slots.specs.Reading.{pooled_in}
use Rattle.channel.proofs.Laws.Markers.{line_in}
use Rattle.channel.specs.Channel.{unit, layout_symbols, mark_right}
use Rattle.std.specs.Prelude.{◌<◌}
use Rattle.slots_symbols.specs.Inner.{Grouped}
use mathlib.Core.List.{List}
use Rattle.plan.specs.declared.Plan.{Plan}
use Rattle.slots_symbols.proofs.bad_mark_in.Goals as goal

-- the sizes that the needs rest on
known : (p : Plan) (b : List ℕ) (line : ℕ) → (Grouped p b × (line < p.layout.lines)) → Bounds p × (line * unit p.layout + unit p.layout ≤ layout_symbols p.layout)
known p b line asked = (bounds p asked.0.fine, line_in (unit p.layout) p.layout.lines line asked.1)

pub returns-then-not-mark_right : goal.returns-then-not-mark_right
returns-then-not-mark_right c =
    let a = c.args in
    let r = (known c.args.p c.args.b.now c.args.line c.requires) in
    let l = c.loop-w in
    let t : ℕ → Bool = mark_right a.p.layout a.p.marks (pooled_in a.p a.b.now) in
    let first : ℕ = a.line * unit a.p.layout in
    let end : ℕ = first + a.p.layout.markers in
    sym (first_here t end (first + l.w) (omega arith) (sym c.mark_right.ensures ∙ c.if-not-mark_right.true)) ∙ l.invariant

pub loop-w-preserved : goal.loop-w-preserved
loop-w-preserved c =
    let a = c.args in
    let r = (known c.args.p c.args.b.now c.args.line c.requires) in
    let l = c.loop-w in
    let t : ℕ → Bool = mark_right a.p.layout a.p.marks (pooled_in a.p a.b.now) in
    let first : ℕ = a.line * unit a.p.layout in
    let end : ℕ = first + a.p.layout.markers in
    let e : first + (l.w + 1) ≡ first + l.w + 1 = omega arith in
    ap (λ (x : ℕ). up_to t x end) e
    ∙ first_on t end (first + l.w) (omega arith) (sym c.mark_right.ensures ∙ c.if-not-mark_right.false)
    ∙ l.invariant

pub returns : goal.returns
returns c =
    let a = c.args in
    let r = (known c.args.p c.args.b.now c.args.line c.requires) in
    let l = c.loop-w in
    let t : ℕ → Bool = mark_right a.p.layout a.p.marks (pooled_in a.p a.b.now) in
    let first : ℕ = a.line * unit a.p.layout in
    let end : ℕ = first + a.p.layout.markers in
    let e : first + l.w ≡ end = omega arith in
    sym (first_end t end (first + l.w) (omega arith) (omega arith)) ∙ l.invariant
