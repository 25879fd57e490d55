-- The copies are whole bytes apart, and so are the numbers of a group.
use mathlib.Core.Path.{◌≡◌, ap, ◌∙◌}
use Prim.Native.Nat.{ℕ, ◌+◌, ◌-◌, ◌*◌}
use native.Mathlib.Omega.{arith}
use lib.ListN.{length}
use Rattle.bits.specs.Inner.{lesser}
use Rattle.bits.specs.Pack.{val, cut}
use Rattle.bits.proofs.Laws.Window.{lesser_min}
use Rattle.pool.specs.Inner.{lit}
use Rattle.pool.proofs.Joining.{bytes_room, number_lit}
use Rattle.pool.proofs.joined.number.Goals as goal

pub fronts-requires : goal.fronts-requires
fronts-requires c =
    let s = c in
    let a = c.args in
    let o = c.requires.0 in
    let d = c.requires.0.held in
    let g = c.requires.1 in
    let t = c.requires.2 in
    let r = bytes_room a.copies a.group a.s g (length a.b.now) o.behind in
    (d.copies_most, omega arith, omega arith, omega arith, omega arith)

pub returns : goal.returns
returns c =
    let s = c in
    let a = c.args in
    let width : c.min-width.result ≡ lesser 64 (a.group - 64 * a.k) = let m = lesser_min 64 (a.group - 64 * a.k) in omega arith in
    c.fronts.ensures
    ∙ number_lit a.copies a.group a.s s.requires.1 a.b.now a.k c.min-width.result
    ∙ ap (λ (w : ℕ). val (cut w (λ t. lit a.b.now a.copies a.group a.s (64 * a.k + t))) 64) width
