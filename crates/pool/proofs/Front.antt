-- Which value is in front, value after value.
use mathlib.Core.Path.{◌≡◌, sym, ap, ◌∙◌}
use mathlib.Core.Bool.{not}
use mathlib.Core.Logic.{⊎_elim}
use Prim.Native.Nat.{ℕ, ◌+◌, ◌≤◌, ◌<◌, max}
use native.Mathlib.Omega.{arith}
use lib.Dec.{ltb, eqb}
use borrow.Author.Tests.{lt-ltb, le-ltb, eq-eqb, ne_eqb}
use Rattle.bits.specs.Basics.{pick}
use Rattle.bits.proofs.Laws.Choice.{lt_or_le, eq_or_ne}
use Rattle.bits.proofs.Laws.First.{found}
use Rattle.pool.proofs.Laws.Pooled.{Above, peak_at, peak_got}
use Rattle.pool.specs.Pooled.{beats, peak}

-- of the values before r, `top` is the largest: q alone has it, or, where q is n, no single one has
pub record Front (f : ℕ → ℕ) (n r top q : ℕ) : Type 0 where
  pub range : q ≤ n
  pub most : (i : ℕ) → i < r → f i ≤ top
  pub one : q < n → (f q ≡ top) × (1 ≤ top) × ((i : ℕ) → i < r → (i ≡ q → ⊥) → f i < top)
  pub many : q ≡ n → 1 ≤ top → (p : ℕ) → p < r → f p ≡ top → ((i : ℕ) → i < r → (i ≡ p → ⊥) → f i < top) → ⊥
  pub met : 1 ≤ top → ((i : ℕ) → i < r → f i < top) → ⊥

pub front_none : (f : ℕ → ℕ) (n : ℕ) → Front f n 0 0 n
front_none f n =
    record {
      range = omega arith;
      most = λ i l. absurd (omega arith);
      one = λ l. absurd (omega arith);
      many = λ e l. absurd (omega arith);
      met = λ l. absurd (omega arith);
    }

-- zeros change nothing
pub front_skip : (f : ℕ → ℕ) (n r u top q : ℕ) → r ≤ u → ((i : ℕ) → r ≤ i → i < u → f i ≡ 0) → Front f n r top q → Front f n u top q
front_skip f n r u top q h zeros a =
    record {
      range = a.range;
      most = λ i l. ⊎_elim (λ (k : i < r). a.most i k) (λ (k : r ≤ i). let z = zeros i k l in omega arith) (lt_or_le i r);
      one = λ l.
          let o = a.one l in
          let t = o.1 in
          (o.0, t, λ i k e. ⊎_elim (λ (g : i < r). o.2 i g e) (λ (g : r ≤ i). let z = zeros i g k in omega arith) (lt_or_le i r));
      many = λ e t p k v w.
          let g : p < r = ⊎_elim (λ (g : p < r). g) (λ (g : r ≤ p). let z = zeros p g k in absurd (omega arith)) (lt_or_le p r) in
          a.many e t p g v (λ i m x. w i (omega arith) x);
      met = λ t w. a.met t (λ i l. w i (omega arith));
    }

-- one value more
pub front_more : (f : ℕ → ℕ) (n r top q v : ℕ) → r < n → v ≡ f r → Front f n r top q → Front f n (r + 1) (max v top) (pick (ltb top v) r (pick (eqb v top) n q))
front_more f n r top q v h e a =
    ⊎_elim
    (λ (l : top < v).
    let m : max v top ≡ v = omega arith in
    rw (m, lt-ltb top v l) (record {
      range = omega arith;
      most = λ i k. ⊎_elim (λ (g : i < r). let z = a.most i g in omega arith) (λ (g : r ≤ i). let z : i ≡ r = omega arith in rw z (omega arith)) (lt_or_le i r);
      one = λ k. (sym e, omega arith, λ i g w. let z = a.most i (omega arith) in omega arith);
      many = λ k. absurd (omega arith);
      met = λ t w. let z = w r (omega arith) in omega arith;
    }))
    (λ (l : v ≤ top).
    let m : max v top ≡ top = omega arith in
    let most : (i : ℕ) → i < r + 1 → f i ≤ top = λ i k.
    ⊎_elim (λ (g : i < r). a.most i g) (λ (g : r ≤ i). let z : i ≡ r = omega arith in rw z (omega arith)) (lt_or_le i r) in
    let met : 1 ≤ top → ((i : ℕ) → i < r + 1 → f i < top) → ⊥ = λ t w. a.met t (λ i k. w i (omega arith)) in
    ⊎_elim
    (λ (k : v ≡ top).
    rw (m, le-ltb top v l, eq-eqb v top k) (record {
      range = omega arith;
      most = most;
      one = λ z. absurd (omega arith);
      many = λ z t p g y w. ⊎_elim
          (λ (c : p ≡ r). a.met t (λ i u. w i (omega arith) (λ x. omega arith)))
          (λ (c : p ≡ r → ⊥). let x = w r (omega arith) (λ x. c (sym x)) in omega arith)
          (eq_or_ne p r);
      met = met;
    }))
    (λ (k : v ≡ top → ⊥).
    let less : v < top = ⊎_elim (λ (g : v < top). g) (λ (g : top ≤ v). absurd (k (omega arith))) (lt_or_le v top) in
    rw (m, le-ltb top v l, ne_eqb v top k) (record {
      range = a.range;
      most = most;
      one = λ z.
          let o = a.one z in
          (o.0, o.1, λ i g w. ⊎_elim (λ (c : i < r). o.2 i c w) (λ (c : r ≤ i). let x : i ≡ r = omega arith in rw x (omega arith)) (lt_or_le i r));
      many = λ z t p g y w.
          let c : p < r = ⊎_elim (λ (c : p < r). c) (λ (c : r ≤ p). let x : f p ≡ v = ap f (omega arith) ∙ sym e in absurd (omega arith)) (lt_or_le p r) in
          a.many z t p c y (λ i u x. w i (omega arith) x);
      met = met;
    }))
    (eq_or_ne v top))
    (lt_or_le top v)

peak_le : (f : ℕ → ℕ) (n : ℕ) → peak f n ≤ n
unfolding peak
peak_le f n = (found (λ i. not (beats f n i)) 0 n (omega arith)).most

-- all were looked at
pub front_end : (f : ℕ → ℕ) (n top q : ℕ) → 2 ≤ n → Front f n n top q → q ≡ peak f n
front_end f n top q two a =
    ⊎_elim
    (λ (l : q < n).
    let o = a.one l in
    let e = o.0 in
    sym (peak_at f n q (record { small = l; rest = λ r k w. let z = o.2 r k w in omega arith })))
    (λ (l : n ≤ q).
    let z = a.range in
    ⊎_elim
    (λ (k : peak f n < n). absurd (none (omega arith) (peak_got f n k)))
    (λ (k : n ≤ peak f n). let u = peak_le f n in omega arith)
    (lt_or_le (peak f n) n))
    (lt_or_le q n)
  where
    p : ℕ
    p = peak f n

    -- some other value is below one that is above the rest
    some : Above f n p → 1 ≤ f p
    some b =
        ⊎_elim
        (λ (e : p ≡ 0). let x = b.rest 1 two (λ w. omega arith) in omega arith)
        (λ (e : p ≡ 0 → ⊥). let x = b.rest 0 (omega arith) (λ w. e (sym w)) in omega arith)
        (eq_or_ne p 0)

    none : q ≡ n → Above f n p → ⊥
    none e b =
        let t = some b in
        let m : f p ≤ top = a.most p b.small in
        ⊎_elim
        (λ (g : f p < top).
        a.met (omega arith) (λ i l. ⊎_elim (λ (w : i ≡ p). rw w g) (λ (w : i ≡ p → ⊥). let x = b.rest i l w in omega arith) (eq_or_ne i p)))
        (λ (g : top ≤ f p).
        a.many e (omega arith) p b.small (omega arith) (λ i l w. let x = b.rest i l w in omega arith))
        (lt_or_le (f p) top)
