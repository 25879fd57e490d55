-- Two bytes hold the eight bits.
use mathlib.Core.Path.{◌≡◌, ap, ◌∙◌}
use Prim.Native.Nat.{ℕ, ◌+◌, ◌*◌, ◌/◌, ◌%◌}
use native.Mathlib.Omega.{arith}
use lib.ListN.{get_or}
use Rattle.bits.specs.Pack.{bit_at}
use Rattle.bits.proofs.Laws.Pack.{val_same}
use Rattle.bits.specs.Inner.{eight_of}
use Rattle.bits.proofs.Stretches.{eight_of_lem}
use Rattle.bits.proofs.stretch.byte_from.Goals as goal

pub returns : goal.returns
returns c =
    let a = c.args in
    let z : a.y / 8 ≡ a.y / 8 + 0 = omega arith in
    c.eight_of.ensures
    ∙ ap (λ (i : ℕ). eight_of (get_or a.packed.now i 0) (get_or a.packed.now (i + 1) 0) (a.y % 8)) z
    ∙ eight_of_lem a.packed.now a.y 0 (λ i. (c.type_inv.packed i).fits)
    ∙ val_same (λ u. bit_at a.packed.now (a.y + (8 * 0 + u))) (λ u. bit_at a.packed.now (a.y + u)) 8 (λ u l. ap (bit_at a.packed.now) (omega arith))
