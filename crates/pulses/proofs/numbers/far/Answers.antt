-- One pulse among the first M slots, and none among the guard slots.
use mathlib.Core.Path.{◌≡◌, sym, ap, ◌∙◌}
use Prim.Native.Nat.{ℕ, ◌+◌, ◌-◌, ◌*◌, ◌/◌, ◌%◌, ◌^◌}
use native.Mathlib.Omega.{arith}
use borrow.Author.Rules.{rules}
use native.Mathlib.Nat.{mul_left_comm}
use Rattle.bits.specs.Pack.{bit_at}
use Rattle.pulses.proofs.Swept.{number_at, sole_bits, far_symbol, guard_none}
use Rattle.pulses.proofs.numbers.far.Goals as goal

pub returns : goal.returns
returns c = λ l.
    let s = c in
    let a = c.args in
    let h = c.requires in
    let k : ℕ = a.group / 8 in
    let at : ℕ = a.s * a.group / 8 in
    let bytes : a.s * a.group ≡ 8 * (a.s * k) = ap (λ (g : ℕ). a.s * g) h.bytes ∙ mul_left_comm a.s 8 k in
    let w : ℕ = a.group - a.order in
    let least = c.requires.guard_least in
    let most = c.requires.guard_most in
    let one = c.requires.numbers_least in
    let many = c.requires.numbers in
    let zero = ap (λ (v : ℕ). v * 2 ^ (64 - w) % 2 ^ 64) (sym c.eight.ensures) ∙ c.if-guard-ne0.false in
    far_symbol a.order a.group a.b.now a.s at c.only.result (omega arith) (omega arith) l
    (λ i g. sole_bits a.b.now at (a.order / 64) c.only.result (c.only.ensures (omega arith) (number_at a.b.now at) (λ k v d e. search rules)) i (omega arith))
    (λ i g f.
    let j : ℕ = i + 64 - a.group in
    let e : 8 * at + i ≡ 8 * (at + k - 8) + j = let b = c.requires.bytes in omega arith in
    ap (bit_at a.b.now) e ∙ guard_none a.b.now (at + k - 8) w (omega arith) zero j (omega arith) (omega arith))
