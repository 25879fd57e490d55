-- One byte is set.
use mathlib.Core.Path.{ap, ◌∙◌}
use Prim.Native.Nat.{ℕ}
use native.Mathlib.Omega.{arith}
use lib.ListN.{set}
use Rattle.rack_entries.proofs.Bytes.{status_put}
use Rattle.rack_entries.proofs.set_status.Goals as goal

pub returns : goal.returns
returns c = let a = c.args in
    let e = c.start.ensures in
    ap (λ (i : ℕ). set a.area.now i a.status) e ∙ status_put a.area.now a.owner a.place a.status (omega arith)
