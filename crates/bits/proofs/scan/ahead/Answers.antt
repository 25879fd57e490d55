-- The window of the byte, shifted up to the slot.
use mathlib.Core.Path.{ap, ◌∙◌}
use Prim.Native.Nat.{ℕ, ◌*◌, ◌%◌, ◌^◌}
use lib.ListN.{length}
use Rattle.bits.proofs.Windows.{window_from}
use Rattle.bits.proofs.scan.ahead.Goals as goal

pub returns : goal.returns
returns c =
    let a = c.args in
    ap (λ (v : ℕ). v * 2 ^ (a.x % 8) % 2 ^ 64) c.window.ensures ∙ window_from a.b.now (length a.b.now) a.x
