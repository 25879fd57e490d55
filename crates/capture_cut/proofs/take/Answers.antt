-- Whole bytes, the last one, and no spare bits.
use mathlib.Core.Path.{refl, ◌∙◌}
use Prim.Native.Nat.{ℕ, ◌-◌}
use native.Mathlib.Omega.{arith}
use lib.ListN.{length, length-set}
use Rattle.capture_cut.proofs.Bytes.{packed}
use Rattle.capture_cut.proofs.take.Goals as goal

pub clear_spare-requires : goal.clear_spare-requires
clear_spare-requires c =
    let s = c in
    let o = c.bytes_from in
    simp length-set (omega (arith, o.ensures.long, s.requires.room, s.requires.some))

pub shape_of-slots : goal.shape_of-slots
shape_of-slots c =
    let o = c.bytes_from in
    simp length-set at c.clear_spare.auto.packed ∙ o.ensures.long

pub returns : goal.returns
returns c =
    let s = c in
    let a = c.args in
    let n : ℕ = length a.slots.now in
    let room = c.requires.room in
    let some = c.requires.some in
    let o = c.bytes_from in
    packed a.b.now a.slots.now o.new.out c.clear_spare.new.packed a.s a.count n (n - 1)
    c.last_byte.result (omega arith) (omega arith) refl
    o.ensures
    c.last_byte.ensures
    c.clear_spare.ensures
    (λ i. omega (arith, c.type_inv.slots i))
