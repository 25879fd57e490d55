-- The status, and then the header.
use mathlib.Core.Path.{◌≡◌, refl, ◌∙◌}
use native.Mathlib.Omega.{arith}
use Prim.Native.Nat.{ℕ, ◌+◌, ◌-◌}
use lib.ListN.{length, set, length-set}
use Rattle.std.proofs.lemmas.List.{take_all}
use Rattle.rack_entries.proofs.Bytes.{entry_put, written}
use Rattle.rack_entries.proofs.set_entry.Goals as goal

pub returns : goal.returns
returns c =
    let a = c.args in
    let at = c.start-at in
    let ten : at.result + 11 - (at.result + 1) ≡ 10 = omega arith in
    let e = at.ensures in
    let before = set a.area.now at.result a.status in
    let room = let l = length-set a.area.now at.result a.status in written before (at.result + 1) 10 a.header.now c.copy_from_slice.new.self (c.copy_from_slice.ensures.after ∙ take_all 10 a.header.now (omega arith)) c.requires.2 (omega arith) in
    rw (ten, e) (entry_put a.area.now a.owner a.place a.status a.header.now _ 10 (omega arith) refl (rw e at room))
