-- Step 9: the place of a symbol, and the symbol of a place.
use mathlib.Core.Path.{◌≡◌, refl, sym, ap, ◌∙◌}
use mathlib.Core.Bool.{not}
use mathlib.Core.Logic.{⊎_elim}
use Prim.Native.Nat.{ℕ, ◌+◌, ◌-◌, ◌*◌, ◌/◌, ◌%◌, ◌≤◌, ◌<◌}
use native.Mathlib.Omega.{arith}
use native.Mathlib.Nat.{le_refl, mul-le-mul, mul_assoc, mod-lt, add-mul-mod_self_right, mod-add-mod, div-add-mod'}
use lib.Dec.{ltb, eqb}
use borrow.Author.Tests.{lt-ltb, le-ltb, ne_eqb, eqb-true, eqb-false, not-true, not-false}
use Rattle.bits.specs.Basics.{pick}
use Rattle.bits.proofs.Laws.Choice.{lt_or_le}
use Rattle.bits.proofs.Laws.First.{up_to_le, all_pass, none_fails, one_fails}
use Rattle.bits.specs.Pack.{cut}
use Rattle.bits.proofs.Laws.Pack.{cut_in, cut_past}
use Rattle.channel.specs.declared.Layout.{Layout}
use Rattle.channel.specs.Channel.{total, place, hit_by, placed}
use Rattle.channel.specs.Inner.{delay, Numbers}

-- a place is what its symbol is modulo N
pub place_mod : (g : Layout) (t : ℕ) → place g t % g.rows ≡ t % g.rows
unfolding place
place_mod g t =
    ap (λ (d : ℕ). (t + d) % g.rows) (sym (mul_assoc (t % g.rows) g.step g.rows))
    ∙ add-mul-mod_self_right t (t % g.rows * g.step) g.rows

-- so that the place tells its delay
pub place_on : (g : Layout) (t : ℕ) → place g t ≡ t + delay g (place g t % g.rows)
unfolding place
place_on g t = ap (λ (r : ℕ). t + delay g r) (sym (place_mod g t))

pub place_back : (g : Layout) (x t : ℕ) → x ≡ t + delay g (x % g.rows) → place g t ≡ x
unfolding place
place_back g x t e =
    let m : x % g.rows ≡ t % g.rows =
    ap (λ (y : ℕ). y % g.rows) (e ∙ ap (λ (d : ℕ). t + d) (sym (mul_assoc (x % g.rows) g.step g.rows)))
    ∙ add-mul-mod_self_right t (x % g.rows * g.step) g.rows in
    ap (λ (r : ℕ). t + delay g r) (sym m) ∙ sym e

-- two symbols have two places
pub place_one : (g : Layout) (t u : ℕ) → place g t ≡ place g u → t ≡ u
place_one g t u e =
    let a : place g t ≡ t + delay g (place g t % g.rows) = place_on g t in
    let b : place g u ≡ u + delay g (place g u % g.rows) = place_on g u in
    let d : delay g (place g t % g.rows) ≡ delay g (place g u % g.rows) = ap (λ (y : ℕ). delay g (y % g.rows)) e in
    omega arith

pub hit_le : (g : Layout) (x : ℕ) → hit_by g x ≤ total g
unfolding hit_by
hit_le g x = up_to_le (λ t. not (eqb (place g t) x)) (total g)

pub place_hit : (g : Layout) (x : ℕ) → hit_by g x < total g → place g (hit_by g x) ≡ x
unfolding hit_by
place_hit g x h =
    let t : ℕ = hit_by g x in
    eqb-true (place g t) x (not-false (eqb (place g t) x) (one_fails (λ t. not (eqb (place g t) x)) (total g) h))

-- none goes there where no symbol has that place
pub hit_none : (g : Layout) (x : ℕ) → ((t : ℕ) → t < total g → place g t ≡ x → ⊥) → hit_by g x ≡ total g
unfolding hit_by
hit_none g x h = all_pass (λ t. not (eqb (place g t) x)) (total g) (λ t l. ap not (ne_eqb (place g t) x (h t l)))

pub hit_here : (g : Layout) (x t : ℕ) → t < total g → place g t ≡ x → hit_by g x ≡ t
unfolding hit_by
hit_here g x t l e =
    ⊎_elim
    (λ (h : hit_by g x < total g). place_one g (hit_by g x) t (place_hit g x h ∙ sym e))
    (λ (h : total g ≤ hit_by g x).
    let all : hit_by g x ≡ total g = let b = hit_le g x in omega arith in
    absurd (eqb-false (place g t) x (not-true (eqb (place g t) x) (none_fails (λ t. not (eqb (place g t) x)) (total g) all t l)) e))
    (lt_or_le (hit_by g x) (total g))

pub hit_place : (g : Layout) (t : ℕ) → t < total g → hit_by g (place g t) ≡ t
hit_place g t l = hit_here g (place g t) t l refl

-- a layout's own numbers, for `hit_by`
pub own_numbers : (g : Layout) → Numbers g g.rows g.step (total g)
own_numbers g = record { rows_are = refl; step_is = refl; total_is = refl }

-- the same by a subtraction, as the code has it
unfoldable pub source : Layout → ℕ → ℕ
source g x = pick (ltb x (delay g (x % g.rows))) (total g) (pick (ltb (x - delay g (x % g.rows)) (total g)) (x - delay g (x % g.rows)) (total g))

pub hit_is : (g : Layout) (x : ℕ) → hit_by g x ≡ source g x
unfolding source
hit_is g x =
    let d : ℕ = delay g (x % g.rows) in
    let on : (t : ℕ) → place g t ≡ x → x ≡ t + d = λ t e. sym e ∙ place_on g t ∙ ap (λ (y : ℕ). t + delay g (y % g.rows)) e in
    ⊎_elim
    (λ (a : x < d). hit_none g x (λ t l e. let q : x ≡ t + d = on t e in absurd (omega arith)) ∙ sym (rw (lt-ltb x d a) refl))
    (λ (a : d ≤ x). ⊎_elim
    (λ (b : x - d < total g). hit_here g x (x - d) b (place_back g x (x - d) (omega arith)) ∙ sym (rw (le-ltb x d a, lt-ltb (x - d) (total g) b) refl))
    (λ (b : total g ≤ x - d). hit_none g x (λ t l e. let q : x ≡ t + d = on t e in absurd (omega arith)) ∙ sym (rw (le-ltb x d a, le-ltb (x - d) (total g) b) refl))
    (lt_or_le (x - d) (total g)))
    (lt_or_le x d)

-- a symbol's place lies before the end of all places
pub place_lt : (g : Layout) → 1 ≤ g.rows → (t : ℕ) → t < total g → place g t < total g + delay g (g.rows - 1)
unfolding place
place_lt g least t l =
    let m : t % g.rows < g.rows = mod-lt t least in
    let b : t % g.rows ≤ g.rows - 1 = omega arith in
    omega (arith, mul-le-mul b (le_refl (g.step * g.rows)))

-- ---- what stands there

module _ (g : Layout) where
  pub placed_hit : (symbol : ℕ → ℕ) (x : ℕ) → hit_by g x < total g → placed g symbol x ≡ symbol (hit_by g x)
  unfolding placed
  placed_hit symbol x h = rw (lt-ltb (hit_by g x) (total g) h) refl

  pub placed_rest : (symbol : ℕ → ℕ) (x : ℕ) → total g ≤ hit_by g x → placed g symbol x ≡ 0
  unfolding placed
  placed_rest symbol x h = rw (le-ltb (hit_by g x) (total g) h) refl

  pub placed_below : (symbol : ℕ → ℕ) (order : ℕ) → 1 ≤ order → ((t : ℕ) → symbol t < order) → (x : ℕ) → placed g symbol x < order
  placed_below symbol order least h x =
      ⊎_elim
      (λ (l : hit_by g x < total g). rw (placed_hit symbol x l) (h (hit_by g x)))
      (λ (l : total g ≤ hit_by g x). rw (placed_rest symbol x l) least)
      (lt_or_le (hit_by g x) (total g))

  pub placed_same : (f k : ℕ → ℕ) → ((t : ℕ) → t < total g → f t ≡ k t) → (x : ℕ) → placed g f x ≡ placed g k x
  placed_same f k h x =
      ⊎_elim
      (λ (l : hit_by g x < total g). placed_hit f x l ∙ h (hit_by g x) l ∙ sym (placed_hit k x l))
      (λ (l : total g ≤ hit_by g x). placed_rest f x l ∙ sym (placed_rest k x l))
      (lt_or_le (hit_by g x) (total g))

-- by a subtraction: the symbol that is as far in front as the place is put back
pub placed_back : (g : Layout) (symbol : ℕ → ℕ) (x : ℕ)
    → placed g symbol x ≡ pick (ltb x (delay g (x % g.rows))) 0 (cut (total g) symbol (x - delay g (x % g.rows)))
unfolding source
placed_back g symbol x =
    let d : ℕ = delay g (x % g.rows) in
    let is : hit_by g x ≡ source g x = hit_is g x in
    ⊎_elim
    (λ (a : x < d).
    let none : hit_by g x ≡ total g = is ∙ rw (lt-ltb x d a) refl in
    placed_rest g symbol x (rw none (le_refl (total g))) ∙ sym (rw (lt-ltb x d a) refl))
    (λ (a : d ≤ x). ⊎_elim
    (λ (b : x - d < total g).
    let hit : hit_by g x ≡ x - d = is ∙ rw (le-ltb x d a, lt-ltb (x - d) (total g) b) refl in
    placed_hit g symbol x (rw hit b) ∙ ap symbol hit ∙ sym (rw (le-ltb x d a) (cut_in (total g) symbol (x - d) b)))
    (λ (b : total g ≤ x - d).
    let none : hit_by g x ≡ total g = is ∙ rw (le-ltb x d a, le-ltb (x - d) (total g) b) refl in
    placed_rest g symbol x (rw none (le_refl (total g))) ∙ sym (rw (le-ltb x d a) (cut_past (total g) symbol (x - d) b)))
    (lt_or_le (x - d) (total g)))
    (lt_or_le x d)

-- no symbol goes to a place before its own number: of the first places the first symbols tell
pub placed_first : (g : Layout) (symbol : ℕ → ℕ) (x : ℕ) → x < total g → placed g symbol x ≡ pick (ltb x (delay g (x % g.rows))) 0 (symbol (x - delay g (x % g.rows)))
placed_first g symbol x l =
    let d : ℕ = delay g (x % g.rows) in
    placed_back g symbol x ∙ ap (pick (ltb x d) 0) (cut_in (total g) symbol (x - d) (omega arith))

-- places that are the same modulo N are at least N apart
pub same_apart : (n x y : ℕ) → x % n ≡ y % n → x < y → x + n ≤ y
same_apart n x y e l =
    let dx = div-add-mod' x n in
    let dy = div-add-mod' y n in
    ⊎_elim
    (λ (h : x / n < y / n). let up : x / n + 1 ≤ y / n = omega arith in omega (arith, mul-le-mul up (le_refl n)))
    (λ (h : y / n ≤ x / n). let down : y / n * n ≤ x / n * n = mul-le-mul h (le_refl n) in absurd (omega arith))
    (lt_or_le (x / n) (y / n))

-- the remainder modulo N one place further on
pub remainder_on : (x n r s : ℕ) → r ≡ x % n → s ≡ (r + 1) % n → s ≡ (x + 1) % n
remainder_on x n r s e f = f ∙ ap (λ (a : ℕ). (a + 1) % n) e ∙ mod-add-mod x n 1
