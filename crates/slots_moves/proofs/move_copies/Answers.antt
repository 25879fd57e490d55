-- The copies before copy c are moved; its pulse stands in front of its group.
use mathlib.Core.Path.{◌≡◌, refl, ap₂, ◌∙◌}
use mathlib.Core.List.{List}
use Prim.Native.Nat.{ℕ, ◌+◌, ◌*◌, ◌^◌, ◌≤◌, ◌<◌}
use native.Mathlib.Omega.{arith}
use native.Mathlib.Nat.{le_refl, mul-le-mul}
use lib.ListN.{length}
use Rattle.bits.specs.Pack.{flip_bit}
use Rattle.slots_moves.specs.Inner.{Copied}
use Rattle.slots_moves.proofs.Laws.Moves.{copies_begun, copies_more, copies_ended}
use Rattle.slots_moves.proofs.move_copies.Goals as goal

pub loop-c-preserved : goal.loop-c-preserved
loop-c-preserved c =
    let s = c in
    let l = c.loop-c in
    let m = c.move_pulse in
    let a = c.args in (
      m.auto.slots ∙ l.invariant.0,
      λ p o f g end zero there else h.
          let low : l.c < p.copies = let e = o.copies_are in omega arith in
          copies_more p o.copies_least a.s f g else end l.c a.q l.slots m.new.slots o.among low o.small zero there (l.invariant.1 p o f g end zero there else h)
          (m.ensures
          ∙ ap₂ (λ (k n : ℕ). flip_bit (flip_bit l.slots ((a.s * k + l.c) * n)) ((a.s * k + l.c) * n + a.q)) o.copies_are o.group_is)
          (λ i. omega (arith, c.type_inv.slots i)),
    )

pub returns : goal.returns
returns c =
    let s = c in
    let l = c.loop-c in
    let all : l.c ≡ s.args.copies = omega arith in
    λ p o. record { becomes = λ f g end zero there else h. copies_ended p o.copies_least s.args.s f g else end l.c l.slots (all ∙ o.copies_are) (l.invariant.1 p o f g end zero there else h) }
