-- Group after group is cut out of the number, and its symbol goes into the row.
use Rattle.std.proofs.Common.{◌≡◌, ℕ, ◌+◌, ◌*◌, ◌/◌, ◌≤◌, ◌<◌, ◌-◌, arith, rules}
use native.Mathlib.Nat.{le_refl, mul-le-mul, add-mul}
use lib.Dec.{eqb}
use Rattle.bits.specs.Basics.{bool}
use Rattle.bits.specs.Pack.{bit_of}
use Rattle.pulses.specs.Pulses.{symbol_in}
use Rattle.pulses_rows.proofs.Pieces.{piece_symbol}
use Rattle.pulses_rows.proofs.forties.forty.Goals as goal

-- group k of the forty slots
within : (per group k : ℕ) → per * group ≡ 40 → k < per → k * group + group ≤ 40
within per group k e l = let m : (k + 1) * group ≤ per * group = mul-le-mul (let h : k + 1 ≤ per = omega arith in h) (le_refl group) in omega arith

pub returns : goal.returns
returns c =
    let a = c.args in
    c.fill.ensures.reached (symbol_in a.order a.group a.b.now) (λ k q low high e small.
    let f = c.requires.0 in
    let big = f.order_most in
    let w = within a.per a.group (k - a.s) f.whole (omega arith) in
    let n : a.s + (k - a.s) ≡ k = omega arith in
    let sum : (a.s + (k - a.s)) * a.group ≡ a.s * a.group + (k - a.s) * a.group = add-mul a.s (k - a.s) a.group in
    let byte = f.byte in
    let here : k * a.group ≡ 8 * (a.s * a.group / 8) + (k - a.s) * a.group = omega (arith, rw n at sum) in
    let bits : q < a.group → (i : ℕ) → i < a.group → bit_of c.eight-v.result ((k - a.s) * a.group + i) ≡ bool (eqb i q) = search rules in
    piece_symbol a.order a.group a.b.now k (a.s * a.group / 8) ((k - a.s) * a.group) c.eight-v.result q big small (omega arith) here c.eight-v.ensures
    (bits (omega arith))) c.requires.3
