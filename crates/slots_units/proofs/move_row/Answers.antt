-- The symbols before symbol i of the row are there; its pulses are moved from the front of its groups.
use mathlib.Core.Path.{◌≡◌, refl, sym, ◌∙◌}
use Prim.Native.Nat.{ℕ, ◌+◌, ◌<◌}
use native.Mathlib.Omega.{arith}
use lib.ListN.{get_or}
use Rattle.slots.proofs.Laws.Bounds.{bounds}
use Rattle.slots_moves.proofs.Laws.Moves.{copied, holds_is, holds_next}
use Rattle.slots_units.proofs.move_row.Goals as goal

pub move_symbol-requires : goal.move_symbol-requires
move_symbol-requires c =
    let s = c in
    let l = c.loop-i in
    let r = c.requires.0 in
    let i = c.requires.0.inside in
    copied s.args.p r.fine (s.args.first + l.i) (get_or s.args.row.now l.i 0) l.slots (l.invariant.2 ∙ s.requires.2) (omega arith) (r.small l.i)

pub loop-i-preserved : goal.loop-i-preserved
loop-i-preserved c =
    let s = c in
    let l = c.loop-i in
    let o = c.move_symbol in
    let a = c.args in
    let q : ℕ = get_or a.row.now l.i 0 in
    let after = c.move_symbol.new.slots in
    let low : l.i < a.to = omega arith in (
      omega arith,
      omega arith,
      o.auto.slots ∙ l.invariant.2,
      λ p ec eg r word end same h.
          let inside = r.inside in
          let small : q < p.group = r.small l.i in
          let moved = o.ensures p (record { copies_are = sym ec; copies_least = r.fine.copies_least; group_is = sym eg; among = omega arith; small = small }) in
          holds_is p word (a.first + l.i + 1) (a.first + (l.i + 1)) end after (omega arith)
          (holds_next p word (a.first + l.i) end q l.slots after (same l.i low) (l.invariant.3 p ec eg r word end same h) moved),
    )

pub returns : goal.returns
returns c word end same h =
    let s = c in
    let l = c.loop-i in
    let e : l.i ≡ s.args.to = let m = c.loop-i.invariant.1 in omega arith in
    rw e at (l.invariant.3 s.args.p refl refl s.requires.0 word end same h)
