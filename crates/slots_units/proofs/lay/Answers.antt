-- Forty slots more are laid at each turn.
use mathlib.Core.Path.{◌≡◌, refl, sym, ◌∙◌}
use Prim.Native.Nat.{ℕ, ◌+◌, ◌-◌, ◌*◌, ◌/◌, ◌%◌, ◌^◌, ◌≤◌, ◌<◌}
use native.Mathlib.Omega.{arith}
use native.Mathlib.Nat.{le_refl, mul-le-mul}
use Rattle.bits.proofs.Laws.Stretch.{laid_none, laid_on}
use Rattle.slots_units.specs.Inner.{row_slot}
use Rattle.slots_units.proofs.Laws.Units.{unit_bit, width_some}
use Rattle.slots_units.proofs.lay.Goals as goal

-- the symbols before those of turn u, and its own, are in the row
within : (per n : ℕ) → (u : ℕ) → u < n → per * u + per ≤ per * n
within per n u l =
    let next : u + 1 ≤ n = omega arith in
    let m : per * (u + 1) ≤ per * n = mul-le-mul (le_refl per) next in
    omega arith

pub loop-u-preserved : goal.loop-u-preserved
loop-u-preserved g c =
    let a = c.args in
    let l = c.loop-u in
    let f = c.put_forty in
    let v = c.unit in (
      f.ensures.long ∙ l.invariant.0,
      λ copies group z b all.
          let fit : g.row.PER * g.row.WIDTH ≤ 40 = omega arith in
          let on : 5 * l.u + 5 ≡ 5 * (l.u + 1) = omega arith in
          rw (sym on) (laid_on a.slots.now l.slots f.new.slots a.at (5 * l.u) 5 (row_slot group g.row.WIDTH a.row.now a.from) (λ t. v.result / 2 ^ (39 - t) % 2)
          (l.invariant.1 copies group z b all) f.ensures
          (λ t h. unit_bit copies group g.row.WIDTH g.row.PER a.row.now a.from l.u v.result t z.whole (width_some copies group g.row.WIDTH a.zero z) all (v.ensures copies group z b fit) h)),
    )
