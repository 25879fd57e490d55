-- The residues below r are done; those before the first and after the last have no symbol in the line.
use mathlib.Core.Path.{◌≡◌, refl, sym, ap, ◌∙◌}
use Prim.Native.Nat.{ℕ, ◌+◌, ◌*◌, ◌%◌, ◌≤◌, ◌<◌}
use native.Mathlib.Omega.{arith}
use Rattle.bits.specs.Pack.{piece}
use Rattle.channel.specs.Inner.{delay}
use Rattle.slots_lines.specs.Inner.{stride}
use Rattle.slots_moves.proofs.Laws.Moves.{holds_same}
use Rattle.slots_lines.proofs.Laws.Lines.{sizes, line_begun, line_ended, residues_late, residues_early}
use Rattle.sizes.specs.Sizes.{word_bytes}
use Rattle.slots_lines.proofs.put_residues.Goals as goal

pub overflow_mul-start : goal.overflow_mul-start
overflow_mul-start c =
    let s = c in
    let z = sizes s.args.p s.requires.0.given.fine s.args.line 0 s.requires.1 in
    omega arith

pub nonzero_rem-c : goal.nonzero_rem-c
nonzero_rem-c c =
    let s = c in
    let z = sizes s.args.p s.requires.0.given.fine s.args.line 0 s.requires.1 in
    let n = c.stride_of-n.ensures in
    omega arith

pub overflow_add-start : goal.overflow_add-start
overflow_add-start c =
    let s = c in
    let z = sizes s.args.p s.requires.0.given.fine s.args.line 0 s.requires.1 in
    omega arith

pub residues_to-to-requires : goal.residues_to-to-requires
residues_to-to-requires c =
    let s = c in
    let f = c.requires.0.given.fine in
    let z = sizes s.args.p f s.args.line 0 s.requires.1 in
    (f.rows_most, f.step_most, omega arith)

pub overflow_mul-p : goal.overflow_mul-p
overflow_mul-p c =
    let s = c in
    let z = sizes s.args.p s.requires.0.given.fine s.args.line 0 s.requires.1 in
    omega arith

pub residues_from-from-requires : goal.residues_from-from-requires
residues_from-from-requires c =
    let s = c in
    let f = c.requires.0.given.fine in
    let z = sizes s.args.p f s.args.line 0 s.requires.1 in
    (f.rows_most, f.step_most, omega arith)

pub loop-r-init : goal.loop-r-init
loop-r-init c =
    let s = c in
    let p = c.args.p in
    let word = piece word_bytes s.args.words.now in
    let from = c.residues_from-from in
    let least = c.min-r in
    let l = least.ensures in (
      omega arith,
      refl,
      λ e h. holds_same p _ _ e _ (λ x. line_begun p word s.args.line x ∙ residues_late p word s.args.line s.requires.0.given.fine least.result x (λ r k. from.ensures r (omega arith))) h,
    )

pub put_residue-requires : goal.put_residue-requires
put_residue-requires c =
    let s = c in
    let p = c.args.p in
    let l = c.loop-r in
    let to = c.residues_to-to in
    let stride-is = c.stride_of-n in
    let n : stride-is.result ≡ stride p.layout.rows = stride-is.ensures in
    let t = c.loop-r-test.true in
    let most : to.result ≤ stride-is.result = to.ensures.0 in (
      record { given = s.requires.0.given; room = l.invariant.1 ∙ s.requires.0.room },
      record { inside = s.requires.1; start = ap (λ (m : ℕ). s.args.line * p.layout.symbols % m) n; small = rw (sym n) (omega arith) },
    )

pub loop-r-preserved : goal.loop-r-preserved
loop-r-preserved c =
    let l = c.loop-r in
    let o = c.put_residue in
    let t = c.loop-r-test.true in
    (omega arith, o.auto.slots ∙ l.invariant.1, λ e h. o.ensures e (l.invariant.2 e h))

pub shape_of-slots : goal.shape_of-slots
shape_of-slots c = c.loop-r.invariant.1

pub returns : goal.returns
returns c =
    let s = c in
    let p = c.args.p in
    let f = c.requires.0.given.fine in
    let word = piece word_bytes s.args.words.now in
    let l = c.loop-r in
    let to = c.residues_to-to in
    let n : c.stride_of-n.result ≡ stride p.layout.rows = c.stride_of-n.ensures in
    let all : l.r ≡ to.result = let t = c.loop-r-test.false in let m = c.loop-r.invariant.0 in omega arith in
    let most : to.result ≤ stride p.layout.rows = let m = c.residues_to-to.ensures.0 in omega arith in
    let none : (r : ℕ) → to.result ≤ r → r < stride p.layout.rows → s.args.line * p.layout.symbols + p.layout.symbols ≤ delay p.layout (r % p.layout.rows) = λ r a k. to.ensures.1 r a (omega arith) in
    λ e h. holds_same p _ _ e l.slots
    (λ x. residues_early p word s.args.line f to.result x most none ∙ line_ended p word s.args.line f.rows_least x)
    (rw all at (l.invariant.2 e h))
