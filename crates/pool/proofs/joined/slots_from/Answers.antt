-- Copy after copy, and the slots that were asked for.
use mathlib.Core.Path.{◌≡◌, ap, ◌∙◌}
use Prim.Native.Nat.{ℕ, ◌-◌, ◌%◌}
use native.Mathlib.Omega.{arith}
use Rattle.bits.specs.Pack.{val, cut}
use Rattle.bits.specs.Inner.{bits_from}
use Rattle.pool.specs.Inner.{some}
use Rattle.pool.proofs.Joining.{join_none, join_more, shown_of, shown_bits, joined_lit}
use Rattle.pool.proofs.joined.slots_from.Goals as goal

pub loop-c-init : goal.loop-c-init
loop-c-init c = join_none _

pub loop-c-preserved : goal.loop-c-preserved
loop-c-preserved c =
    let a = c.args in
    let l = c.loop-c in
    let w : ℕ → ℕ → ℕ = shown_of a.b.now a.copies a.group a.s a.at in
    join_more w (shown_bits a.b.now a.copies a.group a.s a.at) l.c l.any c.window-any.result l.invariant
    (c.window-any.ensures ∙ ap (λ (y : ℕ). val (cut (64 - y % 8) (bits_from a.b.now y)) 64) c.slot.ensures)

pub returns : goal.returns
returns c =
    let a = c.args in
    let l = c.loop-c in
    let w : ℕ → ℕ → ℕ = shown_of a.b.now a.copies a.group a.s a.at in
    let e : l.c ≡ a.copies = omega arith in
    joined_lit a.b.now a.copies a.group a.s a.at a.width l.any (omega arith) (l.invariant ∙ ap (λ (n : ℕ). val (λ t. some (λ c. w c t) n) 64) e)
