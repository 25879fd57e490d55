-- No pulse in the bytes passed, where the bytes joined are 0.
use mathlib.Core.Path.{◌≡◌}
use mathlib.Core.Logic.{⊎_elim}
use Prim.Native.Nat.{◌+◌, ◌≤◌, ◌<◌}
use native.Mathlib.Omega.{arith}
use lib.ListN.{get_or}
use Rattle.bits.proofs.Laws.Choice.{lt_or_le}
use Rattle.bits.proofs.Laws.Sum.{or_zero}
use Rattle.pattern_empty.proofs.any_of.Goals as goal

pub loop-k-preserved : goal.loop-k-preserved
loop-k-preserved c =
    let a = c.args in
    let l = c.loop-k in
    λ e i h.
    let z = or_zero l.d (get_or a.b.now (a.at + l.k) 0) e in
    ⊎_elim
    (λ (g : i < l.k). l.invariant z.0 i g)
    (λ (g : l.k ≤ i). let q : i ≡ l.k = omega arith in rw q z.1)
    (lt_or_le i l.k)
