-- The rows before `line` are there.
use mathlib.Core.Path.{◌≡◌, sym, ◌∙◌}
use native.Mathlib.Omega.{arith}
use Rattle.slots_lines.proofs.Laws.Lines.{holds_none}
use Rattle.bits.specs.Pack.{piece}
use Rattle.sizes.specs.Sizes.{word_bytes}
use Rattle.slots_writer.proofs.put_lines.Goals as goal

pub loop-line-init : goal.loop-line-init
loop-line-init c =
    let s = c in
    holds_none s.args.p (piece word_bytes s.args.words.now) s.args.slots.now s.requires.0.room (λ i. omega (arith, c.type_inv.slots i))

pub put_line-requires : goal.put_line-requires
put_line-requires c = let s = c in (s.requires.0.given, s.requires.1, c.loop-line-test.true, c.loop-line.invariant)

pub loop-line-preserved : goal.loop-line-preserved
loop-line-preserved c = c.put_line.ensures

pub shape_of-slots : goal.shape_of-slots
shape_of-slots c = c.loop-line.invariant.room ∙ sym c.requires.0.room

pub returns : goal.returns
returns c =
    let l = c.loop-line in
    let e : l.line ≡ c.args.p.layout.lines = omega arith in
    rw e at l.invariant
