-- Each symbol goes into the row as it is seen.
use native.Mathlib.Nat.{le_refl, mul-le-mul, add-mul}
use Rattle.std.proofs.Common.{◌≡◌, ℕ, ◌+◌, ◌-◌, ◌*◌, ◌≤◌, ◌<◌, refl, sym, ap, ◌∙◌, arith}
use Rattle.std.proofs.iter.Serving.{serving}
use Rattle.std.proofs.lemmas.Grind.{common_steps}
use Rattle.pool.specs.Pooled.{peak, pooled}
use Rattle.pool_rows.specs.Inner.{pulses_at}
use Rattle.pool_rows.proofs.Worth.{pooled_peak}
use Rattle.pool_rows.proofs.near.near_row.Goals as goal

-- the symbols from s on, as many after it
on : (s k z : ℕ) → s ≤ k → s * z + (k - s) * z ≡ k * z
on s k z l = sym (add-mul s (k - s) z) ∙ ap (λ (n : ℕ). n * z) (omega arith)

pub returns : goal.returns
returns c =
    let a = c.args in
    let big = c.requires.0.of_group.group_least in (
      c.fill.ensures.reached (pooled a.b.now a.copies a.group a.order) (λ k q low high e small.
          let y : ℕ = k * (a.copies * a.group) in
          let here : a.s * (a.copies * a.group) + (k - a.s) * (a.copies * a.group) ≡ y = on a.s k (a.copies * a.group) low in
          let leads : q < a.group → peak (pulses_at a.b.now a.group y a.copies) a.group ≡ q = grind (arith, common_steps) in
          pooled_peak a.b.now a.copies a.group a.order k y q big small refl (leads (omega arith))) c.requires.5,
      c.fill.ensures.within.0,
    )

pub fill-requires-clause-callable : goal.fill-requires-clause-callable
fill-requires-clause-callable c = λ k low high.
    let a = c.args in
    let z : ℕ = a.copies * a.group in
    let here : a.s * z + (k - a.s) * z ≡ k * z = on a.s k z low in
    let next : k + 1 ≤ a.to = omega arith in
    let room : (k + 1) * z ≤ a.to * z = mul-le-mul next (le_refl z) in
    grind serving
