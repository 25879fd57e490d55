-- The symbols so far make the number so far; one more is pushed in from below.
use mathlib.Core.Path.{◌≡◌, refl, sym, ap, ◌∙◌}
use Prim.Native.Nat.{ℕ, ◌+◌, ◌*◌, ◌≤◌}
use native.Mathlib.Omega.{arith}
use native.Mathlib.Nat.{le_refl, mul-le-mul}
use lib.ListN.{get_or}
use Rattle.bits.specs.Pack.{val}
use Rattle.slots_units.specs.Inner.{row_slot}
use Rattle.slots_units.proofs.Laws.Units.{unit_more}
use Rattle.slots_units.proofs.unit.Goals as goal

pub loop-j-init : goal.loop-j-init
unfolding val
loop-j-init g c = λ copies group z b l. let e : 0 * g.row.WIDTH ≡ 0 = omega arith in sym (ap (val (row_slot group g.row.WIDTH c.args.row.now c.args.i)) e)

pub loop-j-preserved : goal.loop-j-preserved
loop-j-preserved g c =
    let a = c.args in
    let l = c.loop-j in
    λ copies group z b h.
    let next : l.j + 1 ≤ g.row.PER = omega arith in
    let room : (l.j + 1) * g.row.WIDTH ≤ g.row.PER * g.row.WIDTH = mul-le-mul next (le_refl g.row.WIDTH) in
    unit_more copies group g.row.WIDTH a.zero a.row.now a.i l.j (get_or a.row.now (a.i + l.j) 0) l.v z refl (b (a.i + l.j)) (omega arith) (l.invariant copies group z b h)
