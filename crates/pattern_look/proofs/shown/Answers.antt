-- The slots of eight bytes but those before slot y.
use mathlib.Core.Path.{sym, ap, ◌∙◌}
use Prim.Native.Nat.{ℕ, ◌-◌, ◌*◌}
use Rattle.bits.proofs.Laws.Window.{lesser_min}
use Rattle.pattern_look.specs.Inner.{shows}
use Rattle.pattern_look.proofs.shown.Goals as goal

pub returns : goal.returns
unfolding shows
returns c = ap (λ (i : ℕ). 64 - (c.args.y - 8 * i)) (c.min-i.ensures ∙ sym (lesser_min _ _))
