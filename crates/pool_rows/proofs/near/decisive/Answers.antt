-- A number that shows all copies, moved on by as many, or one number for each.
use mathlib.Core.List.{List}
use Rattle.std.proofs.Common.{◌≡◌, ℕ, ◌+◌, ◌*◌, ◌%◌, ◌^◌, ◌≤◌, ◌<◌, sym, ap, ◌∙◌, arith, rules}
use native.Mathlib.Nat.{le_refl, mul-le-mul}
use Rattle.bits.specs.Pack.{bit_at, bit_of}
use Rattle.pool.specs.Pooled.{peak}
use Rattle.pool_rows.specs.Inner.{pulses_at}
use Rattle.pool_rows.proofs.Worth.{shl_bit}
use Rattle.pool_rows.proofs.near.decisive.Goals as goal

-- copy c is within all
within : (copies group c : ℕ) → c < copies → c * group + group ≤ copies * group
within copies group c l = let m : (c + 1) * group ≤ copies * group = mul-le-mul (let h : c + 1 ≤ copies = omega arith in h) (le_refl group) in omega arith

pub returns-then-copies-group-le57 : goal.returns-then-copies-group-le57
returns-then-copies-group-le57 c = λ small.
    let a = c.args in
    c.leader.ensures small (λ k i. bit_at a.b.now (a.y + k * a.group + i)) (λ k v i low l e.
    let w = within a.copies a.group k low in
    let most = c.if-copies-group-le57.true in
    let is : v ≡ c.window-all.result * 2 ^ (k * a.group) % 2 ^ 64 = search rules in
    let at : a.y + (k * a.group + i) ≡ a.y + k * a.group + i = omega arith in
    ap (λ (n : ℕ). bit_of n i) is ∙ shl_bit c.window-all.result (k * a.group) i (omega arith) ∙ c.window-all.ensures (k * a.group + i) (omega arith) ∙ ap (bit_at a.b.now) at)

-- as many copies
all_copies : (b : List ℕ) (group y r copies n : ℕ) → peak (pulses_at b group y n) group ≡ r → n ≡ copies → peak (pulses_at b group y copies) group ≡ r
all_copies b group y r copies n p e = sym (ap (λ (k : ℕ). peak (pulses_at b group y k) group) e) ∙ p

pub returns : goal.returns
returns c = λ small.
    let a = c.args in
    let most = c.requires.group_most in
    all_copies a.b.now a.group a.y _ a.copies _ (c.leader-2.ensures small (λ k i. bit_at a.b.now (a.y + k * a.group + i)) (λ k v i low l e.
    let bits : i < 57 → bit_of v i ≡ bit_at a.b.now (a.y + k * a.group + i) = search rules in
    bits (omega arith))) (omega arith)
