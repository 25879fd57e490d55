-- Eight bytes, shifted up to slot y.
use mathlib.Core.Path.{sym, ap, ◌∙◌}
use Prim.Native.Nat.{ℕ, ◌-◌, ◌*◌, ◌%◌, ◌^◌}
use Rattle.bits.proofs.Laws.Window.{lesser_min}
use Rattle.pattern_look.proofs.Sight.{looked}
use Rattle.pattern_look.proofs.look.Goals as goal

pub returns : goal.returns
returns c =
    let s = c in
    let i = c.min-i in
    ap (λ (v : ℕ). v * 2 ^ (s.args.y - 8 * i.result) % 2 ^ 64) c.eight.ensures
    ∙ looked s.args.b.now s.args.y i.result s.requires.eight s.requires.there (i.ensures ∙ sym (lesser_min _ _))
