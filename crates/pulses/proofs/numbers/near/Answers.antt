-- The group's slots, with zeros after them, as one number.
use mathlib.Core.Path.{sym, ap, ◌∙◌}
use Prim.Native.Nat.{ℕ, ◌-◌, ◌*◌, ◌/◌, ◌%◌, ◌^◌}
use native.Mathlib.Omega.{arith}
use Rattle.pulses.proofs.Lone.{near_symbol}
use Rattle.pulses.proofs.numbers.near.Goals as goal

pub returns : goal.returns
returns c = λ l.
    let s = c in
    let a = c.args in
    near_symbol a.order a.group a.b.now a.s c.lone.result s.requires.group_least s.requires.group_most l
    (ap (λ (v : ℕ). v * 2 ^ (a.s * a.group % 8) % 2 ^ 64 / 2 ^ (64 - a.group) * 2 ^ (64 - a.group) % 2 ^ 64) (sym c.eight.ensures)
    ∙ c.lone.ensures (let g = c.requires in omega arith))
