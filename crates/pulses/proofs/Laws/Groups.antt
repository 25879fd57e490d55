-- A group with a symbol holds exactly that pulse, and a group that holds exactly one pulse, among its first M slots, has that symbol.
use mathlib.Core.Path.{◌≡◌, refl, ap, ◌∙◌}
use mathlib.Core.Bool.{Bool, true, false}
use mathlib.Core.List.{List}
use mathlib.Core.Logic.{⊎_elim}
use Prim.Native.Nat.{ℕ, ◌+◌, ◌-◌, ◌*◌, ◌≤◌, ◌<◌}
use native.Mathlib.Omega.{arith}
use lib.Dec.{ltb, eqb}
use borrow.Author.Tests.{ltb-true, lt-ltb, eqb-true, eqb-false, eq-eqb, ne_eqb}
use Rattle.bits.specs.Basics.{pick, bool, up_to}
use Rattle.bits.proofs.Laws.Choice.{lt_or_le, eq_or_ne, bit_cases}
use Rattle.bits.proofs.Laws.First.{found, found_at, found_none, none_found}
use Rattle.bits.specs.Pack.{bit_at, clear_at, first_set}
use Rattle.bits.proofs.Laws.Pack.{bit_lt}
use Rattle.pulses.specs.Pulses.{symbol_in}

-- the g slots from x on hold one pulse, at q, among the first m
pub record Group (b : List ℕ) (m g x q : ℕ) : Type 0 where
  pub small : q < m
  pub slot : (r : ℕ) → r < g → bit_at b (x + r) ≡ bool (eqb r q)

-- an empty slot, and a pulse
slot_none : (b : List ℕ) (x r q : ℕ) → (r ≡ q → ⊥) → clear_at b (x + r) ≡ true → bit_at b (x + r) ≡ bool (eqb r q)
slot_none b x r q n e = rw (ne_eqb r q n) (eqb-true (bit_at b (x + r)) 0 e)

slot_pulse : (b : List ℕ) (x r q : ℕ) → r ≡ q → clear_at b (x + r) ≡ false → bit_at b (x + r) ≡ bool (eqb r q)
slot_pulse b x r q n e =
    rw (eq-eqb r q n)
    (⊎_elim (λ (z : bit_at b (x + r) ≡ 0). absurd (eqb-false (bit_at b (x + r)) 0 e z)) (λ (z : bit_at b (x + r) ≡ 1). z)
    (bit_cases (bit_at b (x + r)) (bit_lt b (x + r))))

got : (b : List ℕ) (m g x : ℕ) → m ≤ g → first_set b x (x + g) < x + m → first_set b (first_set b x (x + g) + 1) (x + g) ≡ x + g → Group b m g x (first_set b x (x + g) - x)
unfolding first_set
got b m g x h l e =
    let f = found (clear_at b) x (x + g) (omega arith) in
    let q : ℕ = up_to (clear_at b) x (x + g) in
    let a : x ≤ q = f.least in
    record {
      small = omega arith;
      slot = λ r k. ⊎_elim
          (λ (s : x + r < q). slot_none b x r (q - x) (λ z. omega arith) (f.before (x + r) (omega arith) s))
          (λ (s : q ≤ x + r). ⊎_elim
          (λ (t : x + r ≡ q). slot_pulse b x r (q - x) (omega arith) (ap (clear_at b) t ∙ f.fails (omega arith)))
          (λ (t : x + r ≡ q → ⊥).
          let u : q + 1 ≤ x + r = ⊎_elim (λ (v : x + r < q + 1). absurd (t (omega arith))) (λ (v : q + 1 ≤ x + r). v) (lt_or_le (x + r) (q + 1)) in
          slot_none b x r (q - x) (λ z. t (omega arith)) (none_found (clear_at b) (q + 1) (x + g) (omega arith) e (x + r) u (omega arith)))
          (eq_or_ne (x + r) q))
          (lt_or_le (x + r) q);
    }

pub group_got : (order group : ℕ) → order ≤ group → (b : List ℕ) (s : ℕ) → symbol_in order group b s < order → Group b order group (s * group) (symbol_in order group b s)
unfolding symbol_in
group_got order group big b s h = cases (ltb q (x + order)) (eqb (first_set b (q + 1) (x + group)) (x + group)) refl refl h
  where
    x : ℕ
    x = s * group

    q : ℕ
    q = first_set b x (x + group)

    cases : (t u : Bool) → ltb q (x + order) ≡ t → eqb (first_set b (q + 1) (x + group)) (x + group) ≡ u
        → pick t (pick u (q - x) order) order < order → Group b order group x (pick t (pick u (q - x) order) order)
    cases true true e f l = got b order group x big (ltb-true q (x + order) e) (eqb-true (first_set b (q + 1) (x + group)) (x + group) f)
    cases true false e f l = absurd (omega arith)
    cases false u e f l = absurd (omega arith)

pub group_made : (order group : ℕ) → order ≤ group → (b : List ℕ) (s q : ℕ) → Group b order group (s * group) q → symbol_in order group b s ≡ q
unfolding symbol_in first_set
group_made order group big b s q c =
    let x : ℕ = s * group in
    let g : ℕ = group in
    let small : q < order = c.small in
    let none : (k : ℕ) → x ≤ k → k < x + g → (k ≡ x + q → ⊥) → clear_at b k ≡ true = λ k a l n.
    let e : k ≡ x + (k - x) = omega arith in
    eq-eqb (bit_at b k) 0 (ap (bit_at b) e ∙ c.slot (k - x) (omega arith) ∙ ap bool (ne_eqb (k - x) q (λ z. n (omega arith)))) in
    let one : bit_at b (x + q) ≡ 1 = c.slot q (omega arith) ∙ ap bool (eq-eqb q q refl) in
    let first : up_to (clear_at b) x (x + g) ≡ x + q =
    found_at (clear_at b) x (x + g) (x + q) (omega arith) (omega arith) (λ i a l. none i a (omega arith) (λ z. omega arith)) (ne_eqb (bit_at b (x + q)) 0 (λ z. omega arith)) in
    let second : up_to (clear_at b) (x + q + 1) (x + g) ≡ x + g =
    found_none (clear_at b) (x + q + 1) (x + g) (omega arith) (λ i a l. none i (omega arith) l (λ z. omega arith)) in
    rw (first, lt-ltb (x + q) (x + order) (omega arith), second, eq-eqb (x + g) (x + g) refl) (omega arith)

-- question 10 is answered yes for each of n groups
abbrev pub Passed : ℕ → ℕ → ℕ → List ℕ → Type 0
Passed order group n b = (s : ℕ) → s < n → symbol_in order group b s < order

-- so that one slot tells
pub tells : (order group n : ℕ) → order ≤ group → (b : List ℕ) → Passed order group n b → (s q : ℕ) → s < n → q < group → bit_at b (s * group + q) ≡ bool (eqb q (symbol_in order group b s))
tells order group n big b h s q l k = (group_got order group big b s (h s l)).slot q k
