-- One byte more is laid at each turn.
use mathlib.Core.Path.{refl, ◌∙◌}
use Prim.Native.Nat.{ℕ, ◌+◌, ◌*◌}
use native.Mathlib.Omega.{arith}
use Rattle.bits.specs.Pack.{bit_at}
use Rattle.bits.proofs.Laws.Stretch.{laid_one, laid_on}
use Rattle.bits.proofs.Stretches.{eight_of_lem}
use Rattle.bits.proofs.stretch.bytes_from.Goals as goal

pub loop-t-preserved : goal.loop-t-preserved
loop-t-preserved c =
    let a = c.args in
    let l = c.loop-t in
    let e = l.invariant.long in
    let g : ℕ → ℕ = λ u. bit_at a.packed.now (a.y + (8 * l.t + u)) in
    laid_on _ _ _ _ _ _ _ g l.invariant
    (laid_one l.out (a.at + l.t) c.eight_of.result g (omega arith) (c.eight_of.ensures ∙ eight_of_lem a.packed.now a.y l.t (λ k. (c.type_inv.packed k).fits)))
    (λ u h. refl)
