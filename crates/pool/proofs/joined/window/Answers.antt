-- Eight bytes, shifted up to bit y.
use mathlib.Core.Path.{ap, ◌∙◌}
use Prim.Native.Nat.{ℕ, ◌*◌, ◌%◌, ◌^◌}
use Rattle.pool.proofs.Joining.{window_is}
use Rattle.pool.proofs.joined.window.Goals as goal

pub returns : goal.returns
returns c =
    let a = c.args in
    ap (λ (v : ℕ). v * 2 ^ (a.y % 8) % 2 ^ 64) c.eight.ensures ∙ window_is a.b.now a.y
