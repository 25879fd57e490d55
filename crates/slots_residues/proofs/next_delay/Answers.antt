-- After the last of N places the remainder is 0 again.
use mathlib.Core.Path.{◌≡◌, sym, ap, ◌∙◌}
use mathlib.Core.Logic.{⊎_elim}
use Prim.Native.Nat.{ℕ, ◌+◌, ◌*◌, ◌%◌, ◌≤◌, ◌<◌}
use native.Mathlib.Omega.{arith}
use native.Mathlib.Nat.{le_refl, mul-le-mul, mul-zero, zero-mul, mod-lt, mod_self, mod-eq_of_lt, mod-add-mod}
use Rattle.bits.proofs.Laws.Choice.{eq_or_ne}
use Rattle.slots_residues.proofs.next_delay.Goals as goal

module _ (x n back : ℕ) (least : 1 ≤ n) where
  last : x % n + 1 ≡ n → (x + 1) % n ≡ 0
  last e = sym (mod-add-mod x n 1) ∙ ap (λ (v : ℕ). v % n) e ∙ mod_self n

  more : (x % n + 1 ≡ n → ⊥) → (x + 1) % n ≡ x % n + 1
  more ne = let l : x % n < n = mod-lt x least in sym (mod-add-mod x n 1) ∙ mod-eq_of_lt (omega arith)

  around : x % n * back + back ≡ n * back → 0 ≡ (x + 1) % n * back
  around e =
      ⊎_elim
      (λ (q : x % n + 1 ≡ n). sym (ap (λ (v : ℕ). v * back) (last q) ∙ zero-mul back))
      (λ (q : x % n + 1 ≡ n → ⊥).
      let l : x % n < n = mod-lt x least in
      let two : (x % n + 2) * back ≤ n * back = mul-le-mul (let k : x % n + 2 ≤ n = omega arith in k) (le_refl back) in
      let none : back ≡ 0 = omega arith in
      sym (ap (λ (v : ℕ). (x + 1) % n * v) none ∙ mul-zero ((x + 1) % n)))
      (eq_or_ne (x % n + 1) n)

  further : (x % n * back + back ≡ n * back → ⊥) → x % n * back + back ≡ (x + 1) % n * back
  further ne =
      ⊎_elim
      (λ (q : x % n + 1 ≡ n). absurd (ne (let k : (x % n + 1) * back ≡ n * back = ap (λ (v : ℕ). v * back) q in omega arith)))
      (λ (q : x % n + 1 ≡ n → ⊥). let k : (x + 1) % n * back ≡ (x % n + 1) * back = ap (λ (v : ℕ). v * back) (more q) in omega arith)
      (eq_or_ne (x % n + 1) n)

pub returns-then-next-wrap : goal.returns-then-next-wrap
returns-then-next-wrap c x n least wrap late = let e = c.if-next-wrap.true in around x n c.args.back least (omega arith)

pub returns-else-next-wrap : goal.returns-else-next-wrap
returns-else-next-wrap c x n least wrap late =
    let e = c.if-next-wrap.false in
    let d = further x n c.args.back least (λ q. e (omega arith)) in
    omega arith
