-- Each step begins on a byte, since forty slots are five of them.
use mathlib.Core.Path.{◌≡◌, ap, ◌∙◌}
use mathlib.Core.Logic.{⊎_elim}
use Prim.Native.Nat.{ℕ, ◌+◌, ◌-◌, ◌*◌, ◌/◌, ◌%◌, ◌≤◌, ◌<◌}
use native.Mathlib.Omega.{arith}
use native.Mathlib.Nat.{le_refl, mul-le-mul, add-mul, mul_right_comm}
use Rattle.bits.proofs.Laws.Choice.{lt_or_le}
use Rattle.pulses_rows.proofs.forties.forties.Goals as goal

per-some : (per group : ℕ) → per * group ≡ 40 → 1 ≤ per
per-some per group e = ⊎_elim (λ (l : per < 1). let z : per ≡ 0 = omega arith in let w : 0 * group ≡ 40 = rw z at e in absurd (omega arith)) (λ (l : 1 ≤ per). l) (lt_or_le per 1)

-- k + 1 pieces are within n
pieces : (per n k : ℕ) → 1 ≤ per → k < n / per → per * k + per ≤ n
pieces per n k some l =
    let m : per * (k + 1) ≤ per * (n / per) = mul-le-mul (le_refl per) (let h : k + 1 ≤ n / per = omega arith in h) in
    omega arith

-- k pieces after a group that begins on a byte another one does
on_byte : (per group from k : ℕ) → per * group ≡ 40 → from * group % 8 ≡ 0 → (from + per * k) * group ≡ 8 * ((from + per * k) * group / 8)
on_byte per group from k e z =
    let sum : (from + per * k) * group ≡ from * group + per * k * group = add-mul from (per * k) group in
    let turn : per * k * group ≡ per * group * k = mul_right_comm per k group in
    let forties : per * group * k ≡ 40 * k = ap (λ (n : ℕ). n * k) e in
    let all : (from + per * k) * group ≡ from * group + 40 * k = sum ∙ ap (λ (n : ℕ). from * group + n) (turn ∙ forties) in
    rw all (omega arith)

pub forty-end-requires : goal.forty-end-requires
forty-end-requires c =
    let a = c.args in
    let l = c.loop-k in
    let f = c.requires.0 in
    let whole = c.requires.1 in
    let long = l.invariant.long in
    let room = c.requires.2 in
    let turn = f.turn in
    let next : a.per * l.k + a.per ≤ a.to - a.from = pieces a.per (a.to - a.from) l.k (per-some a.per a.group whole) c.loop-k-test.true in
    let s : ℕ = a.from + a.per * l.k in
    let one : 1 ≤ a.per = per-some a.per a.group whole in
    let small = f.small in
    let slots : s * a.group ≤ a.to * a.group = mul-le-mul (let h : s ≤ a.to = omega arith in h) (le_refl a.group) in
    let i = f.room (omega arith) in (
      record { order_least = f.order_least; order_most = f.order_most; whole = whole; byte = on_byte a.per a.group a.from l.k whole c.if-from-group-ne0.false; inside = omega arith; small = omega arith },
      omega arith,
      omega arith,
      l.invariant.known,
    )
