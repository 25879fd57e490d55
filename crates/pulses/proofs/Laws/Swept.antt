-- Numbers one after another, of which at most one is not 0.
use mathlib.Core.Path.{◌≡◌, refl, sym, ap, ◌∙◌}
use mathlib.Core.Logic.{⊎_elim}
use Prim.Native.Nat.{ℕ, ◌+◌, ◌-◌, ◌*◌, ◌/◌, ◌%◌, ◌^◌, ◌≤◌, ◌<◌}
use native.Mathlib.Omega.{arith}
use lib.Bits.{bit_or, or_zero_l, or_zero_r}
use lib.Dec.{eqb}
use borrow.Author.Tests.{eq-eqb, ne_eqb}
use Rattle.bits.specs.Basics.{bool}
use Rattle.bits.proofs.Laws.Choice.{eq_or_ne, lt_or_le}
use Rattle.bits.proofs.Laws.Sum.{or_zero}
use Rattle.pulses.specs.Inner.{Sole}

-- of the first k numbers `empty` are 0 and `any` is their join; where all are, or all but one, `zeros` stand in front
pub record Swept (f : ℕ → ℕ) (k any empty zeros : ℕ) : Type 0 where
  pub most : empty ≤ k
  pub room : zeros ≤ k
  pub none : empty ≡ k → (any ≡ 0) × (zeros ≡ k) × ((i : ℕ) → i < k → f i ≡ 0)
  pub one : empty + 1 ≡ k → (zeros < k) × (any ≡ f zeros) × (1 ≤ any) × ((i : ℕ) → i < k → (i ≡ zeros → ⊥) → f i ≡ 0)

pub swept_none : (f : ℕ → ℕ) → Swept f 0 0 0 0
swept_none f =
    record { most = omega arith; room = omega arith; none = λ e. (refl, refl, λ i l. absurd (omega arith)); one = λ e. absurd (omega arith) }

pub swept_more : (f : ℕ → ℕ) (k any empty zeros v e z : ℕ) → Swept f k any empty zeros → v ≡ f k → e ≡ bool (eqb v 0) → z ≡ bool (eqb (bit_or any v) 0)
    → Swept f (k + 1) (bit_or any v) (empty + e) (zeros + z)
swept_more f k any empty zeros v e z s here he hz =
    let most = s.most in
    let room = s.room in
    ⊎_elim
    (λ (q : v ≡ 0).
    let e1 : e ≡ 1 = he ∙ ap bool (eq-eqb v 0 q) in
    let same : bit_or any v ≡ any = ap (bit_or any) q ∙ or_zero_r any in
    record {
      most = omega arith;
      room = ⊎_elim (λ (a : any ≡ 0). let z1 : z ≡ 1 = hz ∙ ap bool (eq-eqb (bit_or any v) 0 (same ∙ a)) in omega arith) (λ (a : any ≡ 0 → ⊥). let z0 : z ≡ 0 = hz ∙ ap bool (ne_eqb (bit_or any v) 0 (λ w. a (sym same ∙ w))) in omega arith) (eq_or_ne any 0);
      none = λ g.
          let n = s.none (omega arith) in
          let z1 : z ≡ 1 = hz ∙ ap bool (eq-eqb (bit_or any v) 0 (same ∙ n.0)) in
          let zk = n.1 in
          (same ∙ n.0, omega arith, λ i l. ⊎_elim (λ (w : i ≡ k). ap f w ∙ sym here ∙ q) (λ (w : i ≡ k → ⊥). n.2 i (omega arith)) (eq_or_ne i k));
      one = λ g.
          let o = s.one (omega arith) in
          let low = o.0 in
          let some = o.2 in
          let z0 : z ≡ 0 = hz ∙ ap bool (ne_eqb (bit_or any v) 0 (λ w. let y : any ≡ 0 = sym same ∙ w in omega arith)) in
          let at : zeros + z ≡ zeros = omega arith in
          (omega arith, same ∙ o.1 ∙ ap f (sym at), omega (arith, same), λ i l n. ⊎_elim (λ (w : i ≡ k). ap f w ∙ sym here ∙ q) (λ (w : i ≡ k → ⊥). o.3 i (omega arith) (λ y. n (y ∙ sym at))) (eq_or_ne i k));
    })
    (λ (q : v ≡ 0 → ⊥).
    let e0 : e ≡ 0 = he ∙ ap bool (ne_eqb v 0 q) in
    let z0 : z ≡ 0 = hz ∙ ap bool (ne_eqb (bit_or any v) 0 (λ w. q (or_zero any v w).1)) in
    record {
      most = omega arith;
      room = omega arith;
      none = λ g. absurd (omega arith);
      one = λ g.
          let n = s.none (omega arith) in
          let zk = n.1 in
          let now : bit_or any v ≡ v = ap (λ (a : ℕ). bit_or a v) n.0 ∙ or_zero_l v in
          let at : zeros + z ≡ k = omega arith in
          let some : 1 ≤ v = ⊎_elim (λ (w : v < 1). absurd (q (omega arith))) (λ (w : 1 ≤ v). w) (lt_or_le v 1) in
          (omega arith, now ∙ here ∙ ap f (sym at), omega (arith, now), λ i l w. n.2 i (let y : i ≡ k → ⊥ = λ u. w (u ∙ sym at) in omega arith));
    })
    (eq_or_ne v 0)

-- where all but one are 0, and that has a single one, there is no other
pub swept_sole : (f : ℕ → ℕ) (n any empty zeros r : ℕ) → Swept f n any empty zeros → empty + 1 ≡ n → r < 64 → any ≡ 2 ^ (63 - r) → Sole f n (64 * zeros + r)
swept_sole f n any empty zeros r s e hr p =
    let o = s.one e in
    let q : (64 * zeros + r) / 64 ≡ zeros = omega arith in
    let t : (64 * zeros + r) % 64 ≡ r = omega arith in
    record { number = rw (q, t) (sym o.1 ∙ p); others = λ k l w. o.3 k l (λ u. w (u ∙ sym q)) }
