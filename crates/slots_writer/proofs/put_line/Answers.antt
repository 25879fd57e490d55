-- The zeros of the line are laid, its markers and then its symbols are put; the rows before it stay as they are.
use mathlib.Core.Path.{◌≡◌, ◌∙◌}
use Prim.Native.Nat.{ℕ, ◌+◌, ◌*◌, ◌/◌, ◌≤◌}
use native.Mathlib.Omega.{arith}
use native.Mathlib.Nat.{le_refl, mul-le-mul}
use Rattle.std.specs.Int.{div_ceil}
use Rattle.slots_lines.specs.Inner.{line_end}
use Rattle.slots_lines.proofs.Laws.Lines.{sizes, line_copies_inside, line_end_inside, line_end_on}
use Rattle.slots_moves.proofs.Laws.Zeros.{holds_laid}
use Rattle.bits.specs.Pack.{piece}
use Rattle.sizes.specs.Sizes.{word_bytes}
use Rattle.channel.specs.Channel.{unit}
use Rattle.slots_writer.proofs.put_line.Goals as goal

ceil : (x : ℕ) → div_ceil x 8 ≡ (x + 7) / 8
ceil x = omega arith

pub overflow_add-unit : goal.overflow_add-unit
overflow_add-unit c =
    let s = c in
    let p = c.args.p in
    let z = sizes p s.requires.0.fine s.args.line 0 s.requires.2 in
    omega arith

pub overflow_mul-line : goal.overflow_mul-line
overflow_mul-line c =
    let s = c in
    let p = c.args.p in
    let z = sizes p s.requires.0.fine s.args.line 0 s.requires.2 in
    omega arith

pub overflow_mul-line-2 : goal.overflow_mul-line-2
overflow_mul-line-2 c =
    let s = c in
    let p = c.args.p in
    let z = sizes p s.requires.0.fine s.args.line 0 s.requires.2 in
    omega (arith, line_copies_inside p s.args.line (omega arith))

pub overflow_mul-line-3 : goal.overflow_mul-line-3
overflow_mul-line-3 c =
    let s = c in
    let p = c.args.p in
    let z = sizes p s.requires.0.fine s.args.line 0 s.requires.2 in
    omega (arith, line_end_inside p s.args.line (omega arith))

pub overflow_add-line : goal.overflow_add-line
overflow_add-line c =
    let s = c in
    let p = c.args.p in
    let z = sizes p s.requires.0.fine s.args.line 0 s.requires.2 in
    omega (arith, mul-le-mul (le_refl s.args.line) z.of_plan.symbols_least)

pub overflow_mul-line-4 : goal.overflow_mul-line-4
overflow_mul-line-4 c =
    let s = c in
    let p = c.args.p in
    let z = sizes p s.requires.0.fine s.args.line 0 s.requires.2 in
    omega arith

pub overflow_mul-line-5 : goal.overflow_mul-line-5
overflow_mul-line-5 c =
    let s = c in
    let p = c.args.p in
    let z = sizes p s.requires.0.fine s.args.line 0 s.requires.2 in
    omega (arith, line_copies_inside p (s.args.line + 1) (omega arith))

pub overflow_mul-line-6 : goal.overflow_mul-line-6
overflow_mul-line-6 c =
    let s = c in
    let p = c.args.p in
    let z = sizes p s.requires.0.fine s.args.line 0 s.requires.2 in
    omega (arith, line_end_inside p (s.args.line + 1) (omega arith))

pub lay_zeros-requires : goal.lay_zeros-requires
lay_zeros-requires c =
    let s = c in
    let p = c.args.p in
    let line = c.args.line in
    let room = c.requires.3.room in
    let on : line * unit p.layout * p.copies * p.group ≤ (line + 1) * unit p.layout * p.copies * p.group = line_end_on p line in
    (s.requires.1.repeats, omega arith, omega (arith, line_end_inside p (line + 1) (omega arith)))

pub put_marks-requires : goal.put_marks-requires
put_marks-requires c = let s = c in (s.requires.0.fine, s.requires.2, c.lay_zeros.ensures.long ∙ s.requires.3.room)

pub put_symbols-requires : goal.put_symbols-requires
put_symbols-requires c = let s = c in (record { given = s.requires.0; room = c.put_marks.auto.slots ∙ (c.lay_zeros.ensures.long ∙ s.requires.3.room) }, s.requires.2)

pub returns : goal.returns
returns c =
    let s = c in
    let p = c.args.p in
    let line = c.args.line in
    let w = piece word_bytes s.args.words.now in
    let laid = c.lay_zeros in
    let end : ℕ = line_end p (line + 1) in
    let near : line * unit p.layout * p.copies * p.group ≤ 8 * line_end p line = omega arith in
    let first = holds_laid p s.requires.0.fine w (line * unit p.layout) (line_end p line) end _ _ _ near s.requires.1 s.requires.3 (rw (c.div_ceil-from.ensures ∙ ceil (line * unit p.layout * p.copies * p.group), c.div_ceil-to.ensures ∙ ceil ((line + 1) * unit p.layout * p.copies * p.group)) at laid.ensures) (λ i. (c.slice_known-2-1.given i).fits) in
    c.put_symbols.ensures end (c.put_marks.ensures w end first)
