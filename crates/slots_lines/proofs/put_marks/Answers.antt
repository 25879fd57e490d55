-- The symbols before marker symbol k are there; its pulse is moved from the front of its group.
use mathlib.Core.Path.{refl, sym, ◌∙◌}
use Prim.Native.Nat.{ℕ, ◌+◌, ◌*◌, ◌<◌}
use native.Mathlib.Omega.{arith}
use lib.ListN.{get_or}
use borrow.Author.Rules.{rules}
use Rattle.channel.proofs.Laws.Markers.{line_mark}
use Rattle.channel.specs.Channel.{unit}
use Rattle.slots.specs.Writing.{placed_symbol}
use Rattle.slots_moves.proofs.Laws.Moves.{copied, of, holds_is, holds_next}
use Rattle.slots_lines.proofs.Laws.Lines.{sizes}
use Rattle.slots_lines.proofs.put_marks.Goals as goal

pub overflow_add-first : goal.overflow_add-first
overflow_add-first c =
    let s = c in
    let p = c.args.p in
    let z = sizes p s.requires.0 s.args.line 0 s.requires.1 in
    omega arith

pub overflow_mul-first : goal.overflow_mul-first
overflow_mul-first c =
    let s = c in
    let p = c.args.p in
    let z = sizes p s.requires.0 s.args.line 0 s.requires.1 in
    omega arith

pub loop-k-init : goal.loop-k-init
loop-k-init c = (search rules, refl, λ word end h. holds_is c.args.p word _ _ end _ (omega arith) h)

pub overflow_add-first-in-loop-k : goal.overflow_add-first-in-loop-k
overflow_add-first-in-loop-k c =
    let s = c in
    let p = c.args.p in
    let z = sizes p s.requires.0 s.args.line 0 s.requires.1 in
    omega arith

pub move_symbol-requires : goal.move_symbol-requires
move_symbol-requires c =
    let s = c in
    let p = c.args.p in
    let z = sizes p s.requires.0 s.args.line 0 s.requires.1 in
    let l = c.loop-k in
    let q : get_or p.marks l.k 0 < p.group = let b = s.requires.0.marks_below l.k in omega arith in
    copied p s.requires.0 (s.args.line * unit p.layout + l.k) (get_or p.marks l.k 0) l.slots (l.invariant.1 ∙ s.requires.2) (omega arith) q

pub loop-k-preserved : goal.loop-k-preserved
loop-k-preserved c =
    let s = c in
    let p = c.args.p in
    let z = sizes p s.requires.0 s.args.line 0 s.requires.1 in
    let l = c.loop-k in
    let o = c.move_symbol in
    let at : ℕ = s.args.line * unit p.layout + l.k in
    let q : get_or p.marks l.k 0 < p.group = let b = s.requires.0.marks_below l.k in omega arith in
    let moved = o.ensures p (of p s.requires.0 at (get_or p.marks l.k 0) (omega arith) q) in (
      search rules,
      o.auto.slots ∙ l.invariant.1,
      λ word end h. holds_is p word (at + 1) (s.args.line * unit p.layout + (l.k + 1)) end o.new.slots (omega arith)
          (holds_next p word at end (get_or p.marks l.k 0) l.slots o.new.slots
          (sym (line_mark p.layout p.marks (placed_symbol p word) s.args.line l.k (omega arith))) (l.invariant.2 word end h) moved),
    )

pub shape_of-slots : goal.shape_of-slots
shape_of-slots c = c.loop-k.invariant.1

pub returns : goal.returns
returns c = let l = c.loop-k in λ word end h. holds_is c.args.p word _ _ end l.slots (omega arith) (l.invariant.2 word end h)
