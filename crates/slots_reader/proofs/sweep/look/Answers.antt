-- Question 12 is put to symbols that are decided, as the row has them.
use mathlib.Core.Path.{◌≡◌, ◌∙◌}
use Prim.Native.Nat.{ℕ, ◌+◌, ◌≤◌}
use native.Mathlib.Omega.{arith}
use native.Mathlib.Nat.{le_refl}
use lib.ListN.{length, length-replicate}
use borrow.Author.Tests.{ltb-true}
use Rattle.bits.proofs.Laws.First.{found, none_found}
use Rattle.slots.specs.Reading.{pooled_in}
use Rattle.slots.specs.Inner.{decided_in}
use Rattle.slots_reader.proofs.sweep.look.Goals as goal

pub rest_after-rest-requires : goal.rest_after-rest-requires
rest_after-rest-requires c =
    let s = c in
    let a = c.args in
    let h = c.requires in
    let some = c.requires.some in
    let o = c.row_out-group in
    let e = c.row_out-group.ensures.value in
    let good : a.to ≤ o.result = omega arith in
    let f = (found (decided_in a.p a.b.now) a.from a.to (omega arith)).most in
    let row = o.ensures.row good in
    let long : length o.new.row ≡ 1024 = o.auto.row ∙ length-replicate {A = ℕ} 1024 0 in (
      record {
        fine = h.slots.fine;
        start = le_refl a.from;
        order = omega arith;
        most = h.most;
        near = h.near;
        room = let few = c.requires.few in omega arith;
        small = λ i l.
            let in_row = row.symbols i l in
            let k = ltb-true (pooled_in a.p a.b.now (a.from + i)) a.p.order (none_found (decided_in a.p a.b.now) a.from a.to (omega arith) (omega arith) (a.from + i) (omega arith) (omega arith)) in
            omega arith;
      },
      h.some,
      h.room,
    )

pub returns : goal.returns
returns c =
    let s = c in
    let o = c.row_out-group in
    record {
      group_value = o.ensures.value;
      known = λ l. c.rest_after-rest.ensures s.args.b.now (o.ensures.row l) s.requires.known;
    }
