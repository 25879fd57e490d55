-- The pooled symbol is compared with the marker's.
use mathlib.Core.Path.{sym, ◌∙◌}
use mathlib.Core.List.{List}
use Prim.Native.Nat.{ℕ, ◌+◌, ◌*◌, ◌≤◌, ◌<◌}
use native.Mathlib.Omega.{arith}
use lib.ListN.{get_or}
use Rattle.slots.proofs.Laws.Bounds.{Bounds, bounds}
use Rattle.slots.specs.Reading.{pooled_in}
use Rattle.channel.proofs.Laws.Markers.{line_in, mark_here}
use Rattle.channel.specs.Channel.{unit, layout_symbols}
use Rattle.plan.specs.declared.Plan.{Plan}
use Rattle.slots_symbols.specs.Inner.{Grouped}
use Rattle.slots_symbols.proofs.mark_right.Goals as goal

-- the sizes that the answers rest on
known : (p : Plan) (b : List ℕ) (line w : ℕ) → Grouped p b × (line < p.layout.lines) × (w < p.layout.markers)
    → Bounds p × (line * unit p.layout + unit p.layout ≤ layout_symbols p.layout) × (get_or p.marks w 0 < p.order)
known p b line w h = (bounds p h.0.fine, line_in (unit p.layout) p.layout.lines line h.1, h.0.fine.marks_below w)

pub is_symbol-requires : goal.is_symbol-requires
is_symbol-requires c =
    let s = c in
    let h = c.requires.0 in
    let r = known _ _ c.args.line c.args.w c.requires in
    let l : s.args.line * unit s.args.p.layout + s.args.w < layout_symbols s.args.p.layout = omega arith in
    (record { slots = record { fine = h.fine; long = h.long }; among = l; small = h.passed _ l }, omega arith)

pub returns : goal.returns
returns c =
    let a = c.args in
    let h = c.requires in
    c.is_symbol.ensures
    ∙ sym (mark_here a.p.layout a.line a.p.marks (pooled_in a.p a.b.now) a.w h.2)
