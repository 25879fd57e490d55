-- A residue r below N comes r · B · N places late.
use mathlib.Core.Path.{◌≡◌}
use Prim.Native.Nat.{ℕ, ◌+◌, ◌-◌, ◌*◌, ◌/◌, ◌%◌, ◌≤◌, ◌<◌}
use native.Mathlib.Omega.{arith}
use native.Mathlib.Nat.{le_refl, mul-le-mul, mod-lt, mod-eq_of_lt, div-add-mod'}
use Rattle.slots_lines.proofs.residues_to.Goals as goal

pub overflow_mul-back : goal.overflow_mul-back
overflow_mul-back c = let h = c.requires in let m : c.args.step * c.args.rows ≤ 256 * 128 = mul-le-mul h.1 h.0 in omega arith

pub returns-then-n-rows : goal.returns-then-n-rows
returns-then-n-rows c = (omega arith, λ r a l. absurd (omega arith))

pub overflow_sub-end : goal.overflow_sub-end
overflow_sub-end c = let h = c.requires.2 in omega arith

pub nonzero_div-end : goal.nonzero_div-end
nonzero_div-end c = let z = c.if-back-eq0.false in omega arith

pub overflow_add-end : goal.overflow_add-end
overflow_add-end c =
    let a = c.args in
    let back : ℕ = a.step * a.rows in
    let some : 1 ≤ back = let z = c.if-back-eq0.false in omega arith in
    let q : ℕ = (a.end - 1) / back in
    let d = div-add-mod' (a.end - 1) back in
    let few : q * 1 ≤ q * back = mul-le-mul (le_refl q) some in
    let one = c.requires.2 in
    omega arith

pub returns : goal.returns
returns c =
    let s = c in
    let a = c.args in
    let back : ℕ = a.step * a.rows in
    let q : ℕ = (a.end - 1) / back in
    let e = c.min.ensures in
    let all : a.n ≡ a.rows = c.if-n-rows.false in
    let some : 0 < back = let z = c.if-back-eq0.false in omega arith in
    let one = c.requires.2 in (
      omega arith,
      λ r low l.
          let d = div-add-mod' (a.end - 1) back in
          let m : (a.end - 1) % back < back = mod-lt (a.end - 1) some in
          let k : q + 1 ≤ r = omega arith in
          let up : (q + 1) * back ≤ r * back = mul-le-mul k (le_refl back) in
          let small : r < a.rows = omega arith in
          let same : r % a.rows ≡ r = mod-eq_of_lt small in
          rw same (let z : a.end ≤ r * back = omega arith in z),
    )
