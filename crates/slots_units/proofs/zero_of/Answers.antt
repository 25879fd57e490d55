-- A zero in c copies, and one copy more.
use mathlib.Core.Path.{◌≡◌, refl, sym, ap, ◌∙◌}
use Prim.Native.Nat.{ℕ, ◌+◌, ◌*◌, ◌%◌, ◌≤◌}
use native.Mathlib.Omega.{arith}
use lib.Dec.{eqb}
use native.Mathlib.Nat.{le_refl, mul-le-mul}
use Rattle.bits.specs.Basics.{bool}
use Rattle.bits.specs.Pack.{val}
use Rattle.slots_units.proofs.Laws.Units.{zero_more}
use Rattle.slots_units.proofs.zero_of.Goals as goal

-- a symbol's slots are no fewer than a group
fits : (copies group : ℕ) → ((1 ≤ copies) × (1 ≤ group) × (copies * group ≤ 40)) → group ≤ 40
fits copies group asked =
    let m : 1 * group ≤ copies * group = mul-le-mul asked.0 (le_refl group) in
    let h = asked.2 in
    omega arith

pub loop-c-init : goal.loop-c-init
unfolding val
loop-c-init c = let e : 0 * c.args.group ≡ 0 = omega arith in sym (ap (val (λ t. bool (eqb (t % c.args.group) 0))) e)

pub loop-c-preserved : goal.loop-c-preserved
loop-c-preserved c =
    let a = c.args in
    let l = c.loop-c in
    let next : l.c + 1 ≤ a.copies = omega arith in
    let room : (l.c + 1) * a.group ≤ a.copies * a.group = mul-le-mul next (le_refl a.group) in
    zero_more a.group l.c l.v c.requires.1 (let h = c.requires.2 in omega arith) l.invariant
