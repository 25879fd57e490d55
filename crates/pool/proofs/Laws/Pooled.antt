-- A pooled symbol is the slot whose count is above each other's. With one copy it is the only pulse, and copies that agree give what each of
-- them gives.
use mathlib.Core.Path.{◌≡◌, refl, sym, ap, ◌∙◌}
use mathlib.Core.Bool.{Bool, true, false, not, true≢false}
use mathlib.Core.List.{List}
use mathlib.Core.Logic.{⊎_elim}
use Prim.Native.Nat.{ℕ, zero, suc, ◌+◌, ◌-◌, ◌*◌, ◌/◌, ◌≤◌, ◌<◌}
use native.Mathlib.Omega.{arith}
use native.Mathlib.Nat.{zero-add, le_refl, mul-le-mul}
use lib.Arith.{digits_div, digits_lt}
use lib.Dec.{ltb, eqb}
use borrow.Author.Tests.{ltb-true, lt-ltb, eqb-true, eq-eqb, ne_eqb}
use Rattle.bits.specs.Basics.{pick, bool, up_to}
use Rattle.bits.proofs.Laws.Choice.{lt_or_le, eq_or_ne}
use Rattle.bits.proofs.Laws.First.{all_pass, none_fails, found, found_at, first_same}
use Rattle.bits.specs.Pack.{Bits, bit_at, first_set}
use Rattle.bits.proofs.Laws.Pack.{bit_lt}
use Rattle.bits.specs.Count.{weight}
use Rattle.bits.proofs.Laws.Weight.{weight_same}
use Rattle.pulses.proofs.Laws.Groups.{Group, group_got, group_made}
use Rattle.pulses.proofs.Laws.Pulses.{slots_read}
use Rattle.pulses.specs.Pulses.{slots_of, symbol_in, grouped, first_bad_group}
use Rattle.pool.specs.Pooled.{count, beats, peak, pooled, decided, first_undecided}
use Rattle.pool.specs.Inner.{Sent, Held}

-- ---- the largest value

-- the value at q is above each other of the n
pub record Above (f : ℕ → ℕ) (n q : ℕ) : Type 0 where
  pub small : q < n
  pub rest : (r : ℕ) → r < n → (r ≡ q → ⊥) → f r < f q

abbrev lower : (ℕ → ℕ) → ℕ → ℕ → Bool
lower f q r = pick (eqb r q) true (ltb (f r) (f q))

beats_made : (f : ℕ → ℕ) (n q : ℕ) → Above f n q → beats f n q ≡ true
unfolding beats
beats_made f n q a =
    eq-eqb (up_to (lower f q) 0 n) n
    (all_pass (lower f q) n (λ r l.
    ⊎_elim
    (λ (e : r ≡ q). rw (eq-eqb r q e) refl)
    (λ (e : r ≡ q → ⊥). rw (ne_eqb r q e) (lt-ltb (f r) (f q) (a.rest r l e)))
    (eq_or_ne r q)))

beats_got : (f : ℕ → ℕ) (n q : ℕ) → q < n → beats f n q ≡ true → Above f n q
unfolding beats
beats_got f n q h e =
    record {
      small = h;
      rest = λ r l w.
          ltb-true (f r) (f q)
          (ap (λ (t : Bool). pick t true (ltb (f r) (f q))) (sym (ne_eqb r q w))
          ∙ none_fails (lower f q) n (eqb-true (up_to (lower f q) 0 n) n e) r l);
    }

-- only one can be so
pub peak_at : (f : ℕ → ℕ) (n q : ℕ) → Above f n q → peak f n ≡ q
unfolding peak
peak_at f n q a =
    found_at (λ i. not (beats f n i)) 0 n q (omega arith) a.small (λ i z l. cases i l (beats f n i) refl) (ap not (beats_made f n q a))
  where
    cases : (i : ℕ) → i < q → (t : Bool) → beats f n i ≡ t → not t ≡ true
    cases i l true e =
        let h = a.small in
        let x : f i < f q = a.rest i (omega arith) (λ w. omega arith) in
        let y : f q < f i = (beats_got f n i (omega arith) e).rest q h (λ w. omega arith) in
        absurd (omega arith)
    cases i l false e = refl

pub peak_got : (f : ℕ → ℕ) (n : ℕ) → peak f n < n → Above f n (peak f n)
unfolding peak
peak_got f n h = cases (beats f n q) refl ((found (λ i. not (beats f n i)) 0 n (omega arith)).fails h)
  where
    q : ℕ
    q = up_to (λ i. not (beats f n i)) 0 n

    cases : (t : Bool) → beats f n q ≡ t → not t ≡ false → Above f n q
    cases true e w = beats_got f n q h e
    cases false e w = absurd (true≢false w)

-- the same values have it at the same place
pub above_same : (f g : ℕ → ℕ) (n q : ℕ) → ((r : ℕ) → r < n → f r ≡ g r) → Above f n q → Above g n q
above_same f g n q h a =
    record {
      small = a.small;
      rest = λ r l w. let x = a.rest r l w in let y = h r l in let z = h q a.small in omega arith;
    }

-- ---- pooled symbols

pub pooled_le : (b : List ℕ) (copies group order s : ℕ) → pooled b copies group order s ≤ order
unfolding pooled
pooled_le b copies group order s = cases (ltb q order) refl
  where
    q : ℕ
    q = peak (count b copies group s) group

    cases : (t : Bool) → ltb q order ≡ t → pick t q order ≤ order
    cases true e = let l = ltb-true q order e in omega arith
    cases false e = omega arith

module _ (b : List ℕ) (copies group order s : ℕ) where
  pub pooled_at : (q : ℕ) → q < order → Above (count b copies group s) group q → pooled b copies group order s ≡ q
  unfolding pooled
  pooled_at q l a = rw (peak_at (count b copies group s) group q a, lt-ltb q order l) refl

  pub pooled_got : order ≤ group → pooled b copies group order s < order → Above (count b copies group s) group (pooled b copies group order s)
  unfolding pooled
  pooled_got big h = cases (ltb q order) refl h
    where
      q : ℕ
      q = peak (count b copies group s) group

      cases : (t : Bool) → ltb q order ≡ t → pick t q order < order → Above (count b copies group s) group (pick t q order)
      cases true e l = peak_got (count b copies group s) group (omega arith)
      cases false e l = absurd (omega arith)

-- one copy: the only pulse, as before
pub count_one : (b : List ℕ) (group s r : ℕ) → count b 1 group s r ≡ bit_at b (s * group + r)
unfolding count weight
count_one b group s r =
    let e : (s * 1 + 0) * group + r ≡ s * group + r = ap (λ (x : ℕ). x * group + r) (omega arith) in
    zero-add (bit_at b ((s * 1 + 0) * group + r)) ∙ ap (bit_at b) e

symbol_le : (order group : ℕ) (b : List ℕ) (s : ℕ) → symbol_in order group b s ≤ order
unfolding symbol_in
symbol_le order group b s = cases (ltb q (x + order)) (eqb (first_set b (q + 1) (x + group)) (x + group)) refl
  where
    x : ℕ
    x = s * group

    q : ℕ
    q = first_set b x (x + group)

    cases : (t u : Bool) → ltb q (x + order) ≡ t → pick t (pick u (q - x) order) order ≤ order
    cases true true e = let l = ltb-true q (x + order) e in omega arith
    cases true false e = omega arith
    cases false u e = omega arith

-- bits of which one is above the others: that is 1, and they are 0
above_bits : (f : ℕ → ℕ) → Bits f → (n q : ℕ) → 2 ≤ n → Above f n q → (r : ℕ) → r < n → f r ≡ bool (eqb r q)
above_bits f bits n q two a r h =
    ⊎_elim
    (λ (e : r ≡ q). rw (eq-eqb r q e) (rw e one))
    (λ (e : r ≡ q → ⊥). let l = a.rest r h e in let u = bits q in rw (ne_eqb r q e) (omega arith))
    (eq_or_ne r q)
  where
    one : f q ≡ 1
    one =
        let u = bits q in
        ⊎_elim
        (λ (e : q ≡ 0). let l = a.rest 1 two (λ w. omega arith) in omega arith)
        (λ (e : q ≡ 0 → ⊥). let l = a.rest 0 (omega arith) (λ w. e (sym w)) in omega arith)
        (eq_or_ne q 0)

-- and such bits have that one above the others
bits_above : (f : ℕ → ℕ) (n q : ℕ) → q < n → ((r : ℕ) → r < n → f r ≡ bool (eqb r q)) → Above f n q
bits_above f n q l h =
    record { small = l; rest = λ r k e. rw (h r k, ne_eqb r q e, h q l, eq-eqb q q refl) (omega arith) }

pub pooled_one : (b : List ℕ) (group order s : ℕ) → 2 ≤ group → order ≤ group → pooled b 1 group order s ≡ symbol_in order group b s
pooled_one b group order s two big =
    let x : ℕ = symbol_in order group b s in
    let p : ℕ = pooled b 1 group order s in
    let f : ℕ → ℕ = λ r. bit_at b (s * group + r) in
    ⊎_elim
    (λ (l : x < order).
    pooled_at b 1 group order s x l
    (above_same f (count b 1 group s) group x (λ r h. sym (count_one b group s r))
    (bits_above f group x (omega arith) (λ r h. (group_got order group big b s l).slot r h))))
    (λ (l : order ≤ x). ⊎_elim
    (λ (k : p < order).
    let a : Above f group p = above_same (count b 1 group s) f group p (λ r h. count_one b group s r) (pooled_got b 1 group order s big k) in
    let e : x ≡ p = group_made order group big b s p record { small = k; slot = λ r h. above_bits f (λ i. bit_lt b (s * group + i)) group p two a r h } in
    sym e)
    (λ (k : order ≤ p). let u = pooled_le b 1 group order s in let v = symbol_le order group b s in omega arith)
    (lt_or_le p order))
    (lt_or_le x order)

-- ---- copies that agree

pub weight_const : (v n : ℕ) → weight (λ c. v) n ≡ n * v
unfolding weight
weight_const v zero = omega arith
weight_const v (suc n) = let r = weight_const v n in omega arith

pub pooled_groups : (b : List ℕ) (copies group order s q : ℕ) → 1 ≤ copies → order ≤ group → q < order
    → ((c : ℕ) → c < copies → Group b order group ((s * copies + c) * group) q) → pooled b copies group order s ≡ q
unfolding count
pooled_groups b copies group order s q some big l h =
    pooled_at b copies group order s q l (record {
      small = omega arith;
      rest = λ r k e. rw (each r k, each q (omega arith), ne_eqb r q e, eq-eqb q q refl) (omega arith);
    })
  where
    each : (r : ℕ) → r < group → weight (λ c. bit_at b ((s * copies + c) * group + r)) copies ≡ copies * bool (eqb r q)
    each r k =
        weight_same (λ c. bit_at b ((s * copies + c) * group + r)) (λ c. bool (eqb r q)) copies (λ c u. (h c u).slot r k) ∙ weight_const (bool (eqb r q)) copies

pub pooled_copies : (b : List ℕ) (copies group order s q : ℕ) → 1 ≤ copies → order ≤ group → q < order
    → ((c : ℕ) → c < copies → symbol_in order group b (s * copies + c) ≡ q) → pooled b copies group order s ≡ q
pooled_copies b copies group order s q some big l h =
    pooled_groups b copies group order s q some big l (λ c k.
    let e : symbol_in order group b (s * copies + c) ≡ q = h c k in
    rw e at (group_got order group big b (s * copies + c) (rw e l)))

-- so written slots give the symbols that were written
pub pooled_slots : (copies group order n : ℕ) (f : ℕ → ℕ) → 1 ≤ copies → 1 ≤ order → order ≤ group → (s : ℕ) → s < n → f s < order
    → pooled (slots_of group (n * copies) (λ x. f (x / copies))) copies group order s ≡ f s
pooled_slots copies group order n f some least big s l small =
    pooled_copies (slots_of group (n * copies) (λ x. f (x / copies))) copies group order s (f s) some big small (λ c k.
    let e : f ((s * copies + c) / copies) ≡ f s = ap f (digits_div s k) in
    slots_read group (n * copies) (λ x. f (x / copies)) order least big (s * copies + c) (digits_lt l k) (rw e small) ∙ e)

-- ---- question 10

pub all_decided : (b : List ℕ) (copies group order n : ℕ) → ((s : ℕ) → s < n → pooled b copies group order s < order) → first_undecided b copies group order n ≡ n
unfolding first_undecided
all_decided b copies group order n h =
    all_pass (decided b copies group order) n (λ s l. lt-ltb (pooled b copies group order s) order (h s l))

pub each_decided : (b : List ℕ) (copies group order n : ℕ) → first_undecided b copies group order n ≡ n → (s : ℕ) → s < n → pooled b copies group order s < order
unfolding first_undecided
each_decided b copies group order n e s l =
    ltb-true (pooled b copies group order s) order (none_fails (decided b copies group order) n e s l)

-- one copy: the test of single groups
pub undecided_one : (b : List ℕ) (group order n : ℕ) → 2 ≤ group → order ≤ group → first_undecided b 1 group order n ≡ first_bad_group order group n b
unfolding first_undecided first_bad_group
undecided_one b group order n two big =
    first_same (decided b 1 group order) (grouped order group b) n (λ s l. ap (λ (q : ℕ). ltb q order) (pooled_one b group order s two big))

module _ (order group copies n : ℕ) (b : List ℕ) (h : Sent order group copies n b) where
  pub held : (s : ℕ) → s < n → Held group copies b s
  held s l =
      let z = h.of_group in
      let k : s + 1 ≤ n = omega arith in
      let c : (s + 1) * copies ≤ n * copies = mul-le-mul k (le_refl copies) in
      let e : s * copies + copies ≤ n * copies = omega arith in
      let m : (s * copies + copies) * group ≤ n * copies * group = mul-le-mul e (le_refl group) in
      let r = h.room in
      let w = h.bound in
      record { group_least = omega arith; group_most = z.group_most; copies_most = h.copies_most; inside = omega arith; small = omega arith }

  -- fewer symbols, too
  pub fewer : (k : ℕ) → k ≤ n → Sent order group copies k b
  fewer k l =
      let c : k * copies ≤ n * copies = mul-le-mul l (le_refl copies) in
      let m : k * copies * group ≤ n * copies * group = mul-le-mul c (le_refl group) in
      let r = h.room in
      let w = h.bound in
      record { of_group = h.of_group; copies_most = h.copies_most; room = omega arith; bound = omega arith }
