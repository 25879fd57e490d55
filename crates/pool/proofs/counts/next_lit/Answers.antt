-- An empty window is passed, and the first one of another is that slot.
use mathlib.Core.Path.{sym, ◌∙◌}
use Prim.Native.Nat.{ℕ, ◌≤◌, ◌<◌}
use native.Mathlib.Omega.{arith}
use mathlib.Core.Logic.{⊎_elim}
use Rattle.bits.proofs.Laws.Choice.{lt_or_le}
use Rattle.pool.proofs.Joining.{all_dark, lead_in, lead_dark}
use Rattle.pool.proofs.counts.next_lit.Goals as goal

pub returns-then-v-ne0 : goal.returns-then-v-ne0
returns-then-v-ne0 c =
    let a = c.args in
    let l = c.loop-at in
    let w : ℕ = c.min-width.result in
    let m : w ≤ 57 = omega arith in
    let r : ℕ = c.leading.result in
    let v = rw c.slots_from-v.ensures at c.leading.ensures in
    let k = lead_in a.b.now a.copies a.group a.s l.at w m r v in (
      omega arith,
      omega arith,
      λ i f h. ⊎_elim
          (λ (g : i < l.at). l.invariant.2 i f g)
          (λ (g : l.at ≤ i). lead_dark a.b.now a.copies a.group a.s l.at w m r v i g h)
          (lt_or_le i l.at),
    )

pub loop-at-preserved : goal.loop-at-preserved
loop-at-preserved c =
    let a = c.args in
    let l = c.loop-at in
    let w : ℕ = c.min-width.result in
    let m : w ≤ 57 = omega arith in
    let z = sym c.slots_from-v.ensures ∙ c.if-v-ne0.false in (
      omega arith,
      omega arith,
      λ i f h. ⊎_elim
          (λ (g : i < l.at). l.invariant.2 i f g)
          (λ (g : l.at ≤ i). all_dark a.b.now a.copies a.group a.s l.at w m z i g (omega arith))
          (lt_or_le i l.at),
    )

-- the last window goes up to the group's end
pub returns-else-v-ne0 : goal.returns-else-v-ne0
returns-else-v-ne0 c =
    let a = c.args in
    let l = c.loop-at in
    let w : ℕ = c.min-width.result in
    let m : w ≤ 57 = omega arith in
    let z = sym c.slots_from-v.ensures ∙ c.if-v-ne0.false in (
      omega arith,
      omega arith,
      λ i f h. ⊎_elim
          (λ (g : i < l.at). l.invariant.2 i f g)
          (λ (g : l.at ≤ i). all_dark a.b.now a.copies a.group a.s l.at w m z i g (omega arith))
          (lt_or_le i l.at),
    )
