-- A residue r comes r · B · N places late, or less.
use mathlib.Core.Path.{◌≡◌}
use Prim.Native.Nat.{ℕ, ◌-◌, ◌*◌, ◌/◌, ◌%◌, ◌≤◌, max}
use native.Mathlib.Omega.{arith}
use native.Mathlib.Nat.{le_refl, mul-le-mul, div-add-mod'}
use Rattle.slots_lines.proofs.residues_from.Goals as goal

pub returns-then-start-total : goal.returns-then-start-total
returns-then-start-total c r l = absurd (omega arith)

pub overflow_mul-step : goal.overflow_mul-step
overflow_mul-step c = let h = c.requires in let m : c.args.step * c.args.rows ≤ 256 * 128 = mul-le-mul h.1 h.0 in omega arith

pub nonzero_div-result : goal.nonzero_div-result
nonzero_div-result c = let e = c.max.ensures in omega arith

pub overflow_add-result : goal.overflow_add-result
overflow_add-result c =
    let a = c.args in
    let m : ℕ = c.max.result in
    let e : m ≡ max (a.step * a.rows) 1 = c.max.ensures in
    let q : ℕ = (a.start - a.total) / m in
    let d = div-add-mod' (a.start - a.total) m in
    let one : 1 ≤ m = omega arith in
    let few : q * 1 ≤ q * m = mul-le-mul (le_refl q) one in
    let small = c.requires.2 in
    omega arith

pub returns : goal.returns
returns c r l =
    let s = c in
    let a = c.args in
    let m : ℕ = c.max.result in
    let e : m ≡ max (a.step * a.rows) 1 = c.max.ensures in
    let q : ℕ = (a.start - a.total) / m in
    let d = div-add-mod' (a.start - a.total) m in
    let u = div-add-mod' r a.rows in
    let low : r % a.rows ≤ r = omega arith in
    let back : a.step * a.rows ≤ m = omega arith in
    let late : r % a.rows * (a.step * a.rows) ≤ r * m = mul-le-mul low back in
    let few : r ≤ q = omega arith in
    let most : r * m ≤ q * m = mul-le-mul few (le_refl m) in
    let big = c.if-start-total.false in
    omega arith
