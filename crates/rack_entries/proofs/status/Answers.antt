-- The first byte of the entry, and 0 after the end.
use mathlib.Core.Path.{sym, ap, ◌∙◌}
use Prim.Native.Nat.{ℕ}
use native.Mathlib.Omega.{arith}
use lib.ListN.{get_or, get_or-eq_default}
use Rattle.rack_entries.proofs.Bytes.{status_is}
use Rattle.rack_entries.proofs.status.Goals as goal

pub returns-then-at-area : goal.returns-then-at-area
returns-then-at-area c = let a = c.args in
    ap (λ (i : ℕ). get_or a.area.now i 0) c.start-at.ensures ∙ sym (status_is a.area.now a.owner a.place)

pub returns-else-at-area : goal.returns-else-at-area
returns-else-at-area c = let a = c.args in
    let e = c.start-at.ensures in
    sym (status_is a.area.now a.owner a.place ∙ get_or-eq_default a.area.now 0 (omega arith))
