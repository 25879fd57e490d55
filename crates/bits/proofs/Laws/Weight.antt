-- Counts of differences and of ones: bounds, parts, and two counts exchanged.
use mathlib.Core.Path.{◌≡◌, refl, sym, ap, ap₂, ◌∙◌}
use mathlib.Core.Logic.{⊎_elim}
use Prim.Native.Nat.{ℕ, zero, suc, ◌+◌, ◌-◌, ◌≤◌, ◌<◌}
use native.Mathlib.Omega.{arith}
use native.Mathlib.Nat.{add-zero, add-suc}
use native.Mathlib.Numerals.{add-one, add-two, add-three}
use lib.Bits.{bit_xor}
use lib.Dec.{ltb, eqb}
use borrow.Author.Tests.{lt-ltb, le-ltb, eq-eqb, ne_eqb}
use Rattle.bits.specs.Basics.{pick, bool}
use Rattle.bits.proofs.Laws.Choice.{bit_cases, lt_or_le, eq_or_ne}
use Rattle.bits.proofs.Laws.Sum.{xor_same, same_xor, xor_bit}
use Rattle.bits.specs.Pack.{Bits}
use Rattle.bits.specs.Count.{differences, weight}

-- bits differ where their sum is 1
pub differences_weight : (f g : ℕ → ℕ) → Bits f → Bits g → (n : ℕ) → differences f g n ≡ weight (λ i. bit_xor (f i) (g i)) n
unfolding differences weight
differences_weight f g hf hg zero = refl
differences_weight f g hf hg (suc n) = ap₂ (λ (a b : ℕ). a + b) (differences_weight f g hf hg n) here
  where
    here : pick (eqb (f n) (g n)) 0 1 ≡ bit_xor (f n) (g n)
    here =
        ⊎_elim
        (λ (e : f n ≡ g n). rw (eq-eqb (f n) (g n) e) (sym (xor_same (f n) (g n) e)))
        (λ (e : f n ≡ g n → ⊥). rw (ne_eqb (f n) (g n) e)
        (⊎_elim (λ (z : bit_xor (f n) (g n) ≡ 0). absurd (e (same_xor (f n) (g n) z))) (λ (z : bit_xor (f n) (g n) ≡ 1). sym z)
        (bit_cases (bit_xor (f n) (g n)) (xor_bit (f n) (g n) (hf n) (hg n)))))
        (eq_or_ne (f n) (g n))

pub differences_same : (f g f' g' : ℕ → ℕ) (n : ℕ) → ((i : ℕ) → i < n → f i ≡ f' i) → ((i : ℕ) → i < n → g i ≡ g' i) → differences f g n ≡ differences f' g' n
unfolding differences
differences_same f g f' g' zero hf hg = refl
differences_same f g f' g' (suc n) hf hg =
    ap₂ (λ (a b : ℕ). a + b)
    (differences_same f g f' g' n (λ i l. hf i (omega arith)) (λ i l. hg i (omega arith)))
    (ap₂ (λ (a b : ℕ). pick (eqb a b) 0 1) (hf n (omega arith)) (hg n (omega arith)))

pub weight_same : (f g : ℕ → ℕ) (n : ℕ) → ((i : ℕ) → i < n → f i ≡ g i) → weight f n ≡ weight g n
unfolding weight
weight_same f g zero h = refl
weight_same f g (suc n) h = ap₂ (λ (a b : ℕ). a + b) (weight_same f g n (λ i l. h i (omega arith))) (h n (omega arith))

-- two and three places more
pub weight_two : (f : ℕ → ℕ) (n : ℕ) → weight f (n + 2) ≡ weight f n + (f n + f (n + 1))
unfolding weight
weight_two f n = rw (add-two n, add-one n) (omega arith)

pub weight_three : (f : ℕ → ℕ) (n : ℕ) → weight f (n + 3) ≡ weight f n + (f n + f (n + 1) + f (n + 2))
unfolding weight
weight_three f n = rw (add-three n, add-two n, add-one n) (omega arith)

-- n places more: as many ones at the most, and none where all are 0
weight_more : (f : ℕ → ℕ) → Bits f → (a n : ℕ) → weight f (a + n) ≤ weight f a + n
unfolding weight
weight_more f h a zero = rw (add-zero a) (omega arith)
weight_more f h a (suc n) = rw (add-suc a n) (omega (arith, weight_more f h a n, h (a + n)))

weight_still : (f : ℕ → ℕ) (a n : ℕ) → ((i : ℕ) → a ≤ i → i < a + n → f i ≡ 0) → weight f (a + n) ≡ weight f a
unfolding weight
weight_still f a zero h = ap (weight f) (add-zero a)
weight_still f a (suc n) h =
    rw (add-suc a n) (omega (arith, weight_still f a n (λ i l u. h i l (omega arith)), h (a + n) (omega arith) (omega arith)))

-- so a bound grows by the places after a stretch of zeros alone
pub weight_past : (f : ℕ → ℕ) → Bits f → (a b n w : ℕ) → a ≤ b → b ≤ n → weight f a ≤ w → ((i : ℕ) → a ≤ i → i < b → f i ≡ 0) → weight f n ≤ w + (n - b)
weight_past f h a b n w ab bn bound none =
    let eb : a + (b - a) ≡ b = omega arith in
    let en : b + (n - b) ≡ n = omega arith in
    let still : weight f b ≡ weight f a = ap (weight f) (sym eb) ∙ weight_still f a (b - a) (λ i l u. none i l (omega arith)) in
    let more : weight f (b + (n - b)) ≤ weight f b + (n - b) = weight_more f h b (n - b) in
    rw (← en) (omega arith)

pub weight_most : (f : ℕ → ℕ) → Bits f → (n : ℕ) → weight f n ≤ n
unfolding weight
weight_most f h zero = omega arith
weight_most f h (suc n) = omega (arith, weight_most f h n, h n)

-- ---- sums

pub weight_none : (f : ℕ → ℕ) (n : ℕ) → ((i : ℕ) → i < n → f i ≡ 0) → weight f n ≡ 0
unfolding weight
weight_none f zero h = refl
weight_none f (suc n) h = ap₂ (λ (a b : ℕ). a + b) (weight_none f n (λ i l. h i (omega arith))) (h n (omega arith))

pub weight_add : (f g : ℕ → ℕ) (n : ℕ) → weight (λ i. f i + g i) n ≡ weight f n + weight g n
unfolding weight
weight_add f g zero = refl
weight_add f g (suc n) = omega (arith, weight_add f g n)

pub weight_all : (f : ℕ → ℕ) (n : ℕ) → ((i : ℕ) → i < n → f i ≡ 1) → weight f n ≡ n
unfolding weight
weight_all f zero h = refl
weight_all f (suc n) h = omega (arith, weight_all f n (λ i l. h i (omega arith)), h n (omega arith))

-- of one stretch and the next
pub weight_append : (f : ℕ → ℕ) (a n : ℕ) → weight f (a + n) ≡ weight f a + weight (λ i. f (a + i)) n
unfolding weight
weight_append f a zero = rw (add-zero a) (omega arith)
weight_append f a (suc n) = rw (add-suc a n) (omega (arith, weight_append f a n))

-- over two indices, in either order
pub weight_swap : (f : ℕ → ℕ → ℕ) (m n : ℕ) → weight (λ i. weight (f i) m) n ≡ weight (λ j. weight (λ i. f i j) n) m
unfolding weight
weight_swap f m zero = sym (weight_none (λ j. 0) m (λ j l. refl))
weight_swap f m (suc n) =
    ap (λ (w : ℕ). w + weight (f n) m) (weight_swap f m n)
    ∙ sym (weight_add (λ j. weight (λ i. f i j) n) (f n) m)

-- one number among those below n
pub weight_one : (a n : ℕ) → weight (λ i. bool (eqb a i)) n ≡ bool (ltb a n)
unfolding weight
weight_one a zero = sym (ap bool (le-ltb a 0 (omega arith)))
weight_one a (suc n) =
    ⊎_elim
    (λ (e : a ≡ n).
    let none : weight (λ i. bool (eqb a i)) n ≡ 0 = weight_none (λ i. bool (eqb a i)) n (λ i l. ap bool (ne_eqb a i (λ z. omega arith))) in
    rw (none, eq-eqb a n e, lt-ltb a (suc n) (omega arith)) refl)
    (λ (e : a ≡ n → ⊥). ap₂ (λ (v w : ℕ). v + w) (weight_one a n) (ap bool (ne_eqb a n e)) ∙ add-zero (bool (ltb a n)) ∙ ap bool (same a n e))
    (eq_or_ne a n)
  where
    same : (a n : ℕ) → (a ≡ n → ⊥) → ltb a n ≡ ltb a (suc n)
    same a n e =
        ⊎_elim
        (λ (l : a < n). lt-ltb a n l ∙ sym (lt-ltb a (suc n) (omega arith)))
        (λ (l : n ≤ a). le-ltb a n l ∙ sym (le-ltb a (suc n) (omega arith)))
        (lt_or_le a n)
