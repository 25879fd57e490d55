-- The first row with a failure has the first failure, and rows without one are passed.
use mathlib.Core.Path.{◌≡◌, sym, ap, ◌∙◌}
use Prim.Native.Nat.{ℕ, ◌+◌, ◌*◌, ◌≤◌, ◌<◌}
use native.Mathlib.Omega.{arith}
use Rattle.slots.proofs.Laws.Bounds.{Bounds, bounds}
use Rattle.slots.specs.Reading.{pooled_in, first_bad_mark}
use Rattle.bits.proofs.Laws.First.{sought_fails, sought_more, sought_end}
use Rattle.channel.proofs.Laws.Markers.{line_in, mark_else}
use Rattle.channel.specs.Channel.{unit, layout_symbols}
use Rattle.slots_symbols.specs.Inner.{Grouped}
use mathlib.Core.List.{List}
use Rattle.plan.specs.declared.Plan.{Plan}
use Rattle.slots_symbols.proofs.first_bad_mark.Goals as goal

-- the sizes that the needs rest on
known : (p : Plan) (b : List ℕ) → Grouped p b → (line : ℕ) → line < p.layout.lines → Bounds p × (line * unit p.layout + unit p.layout ≤ layout_symbols p.layout)
known p b asked line l = (bounds p asked.fine, line_in (unit p.layout) p.layout.lines line l)

pub overflow_add-unit : goal.overflow_add-unit
overflow_add-unit c = let k = bounds c.args.p c.requires.fine in omega arith

pub returns-then-s-line : goal.returns-then-s-line
unfolding first_bad_mark
returns-then-s-line c =
    let s = c in
    let l = c.loop-line in
    let p = c.args.p in
    let r = (known c.args.p c.args.b.now c.requires) l.line (omega arith) in
    sought_fails _ _ _ _ l.line l.invariant (l.line * unit p.layout + p.layout.markers) _ (omega arith) (omega arith) (omega arith) c.bad_mark_in-s.ensures (omega arith)

pub loop-line-preserved : goal.loop-line-preserved
loop-line-preserved c =
    let s = c in
    let l = c.loop-line in
    let p = c.args.p in
    let r = (known c.args.p c.args.b.now c.requires) l.line (omega arith) in
    sought_more _ _ _ _ l.line l.invariant (l.line * unit p.layout + p.layout.markers) _ (omega arith) (omega arith) (omega arith) c.bad_mark_in-s.ensures (omega arith) (omega arith)
    (mark_else p.layout l.line p.marks (pooled_in p s.args.b.now))

pub returns : goal.returns
unfolding first_bad_mark
returns c =
    let l = c.loop-line in
    let p = c.args.p in
    let e : l.line ≡ p.layout.lines = let t = c.loop-line.invariant.turn in omega arith in
    sym (ap (λ (i : ℕ). i * unit p.layout) e) ∙ sought_end _ _ _ _ l.line l.invariant (ap (λ (i : ℕ). i * unit p.layout) e)
