-- Lists by index, tests joined by "and" and "or", and a test computed for all numbers below a bound.
use mathlib.Core.Path.{◌≡◌, refl, sym, ap, ap₂, ◌∙◌}
use mathlib.Core.Bool.{Bool, true, false, ◌||◌, true≢false, false≢true}
use mathlib.Core.List.{List, ◌++◌, append-nil}
use mathlib.Core.Logic.{⊎_elim}
use Prim.Native.Nat.{ℕ, zero, suc, ◌+◌, ◌≤◌, ◌<◌}
use native.Mathlib.Omega.{arith}
use lib.Dec.{T}
use lib.ListN.{length, get_or, set, take, drop}
use lib.Seq.{ext_get_or, take-length, drop-length, get_or-set_same, get_or-set_other}
use Rattle.bits.proofs.Laws.Choice.{lt_or_le, eq_or_ne}
use Rattle.bits.specs.Basics.{tab, both}

pub length_tab : (n : ℕ) (f : ℕ → ℕ) → length (tab n f) ≡ n
unfolding tab
length_tab zero f = refl
length_tab (suc n) f = ap suc (length_tab n (λ i. f (suc i)))

pub get_or_tab : (n : ℕ) (f : ℕ → ℕ) (i : ℕ) → i < n → get_or (tab n f) i 0 ≡ f i
unfolding tab
get_or_tab zero f i h = absurd (omega arith)
get_or_tab (suc n) f zero h = refl
get_or_tab (suc n) f (suc i) h = get_or_tab n (λ j. f (suc j)) i (omega arith)

pub get_or_tab_past : (n : ℕ) (f : ℕ → ℕ) (i : ℕ) → n ≤ i → get_or (tab n f) i 0 ≡ 0
unfolding tab
get_or_tab_past zero f i h = refl
get_or_tab_past (suc n) f zero h = absurd (omega arith)
get_or_tab_past (suc n) f (suc i) h = get_or_tab_past n (λ j. f (suc j)) i (omega arith)

-- the list of that length with these elements is it
pub tab_made : (n : ℕ) (f : ℕ → ℕ) (xs : List ℕ) → length xs ≡ n → ((i : ℕ) → i < n → get_or xs i 0 ≡ f i) → xs ≡ tab n f
tab_made n f xs e h =
    ext_get_or 0 xs (tab n f) (e ∙ sym (length_tab n f)) (λ i l.
    let k : i < n = omega arith in
    h i k ∙ sym (get_or_tab n f i k))

-- functions that agree make the same list
pub tab_same : (n : ℕ) (f g : ℕ → ℕ) → ((i : ℕ) → i < n → f i ≡ g i) → tab n f ≡ tab n g
tab_same n f g h = tab_made n g (tab n f) (length_tab n f) (λ i l. get_or_tab n f i l ∙ h i l)

-- a list of bits
pub tab_bits : (n : ℕ) (f : ℕ → ℕ) → ((i : ℕ) → f i < 2) → (i : ℕ) → get_or (tab n f) i 0 < 2
tab_bits n f h i =
    ⊎_elim (λ (l : i < n). rw (get_or_tab n f i l) (h i)) (λ (l : n ≤ i). rw (get_or_tab_past n f i l) (omega arith)) (lt_or_le i n)

-- a copy of a list over one of the same length
pub copied : (from to : List ℕ) → length to ≡ length from → take (length from) from ++ drop (length from) to ≡ from
copied from to e =
    ap₂ (λ (a b : List ℕ). a ++ b) (take-length from) (ap (λ (n : ℕ). drop n to) (sym e) ∙ drop-length to) ∙ append-nil from

-- a loop that fills a list from the front: one place more
pub fill : (xs : List ℕ) (f : ℕ → ℕ) (i v : ℕ) → i < length xs → v ≡ f i → ((k : ℕ) → k < i → get_or xs k 0 ≡ f k)
    → (k : ℕ) → k < i + 1 → get_or (set xs i v) k 0 ≡ f k
fill xs f i v l e h k b =
    ⊎_elim
    (λ (q : k ≡ i). ap (λ (j : ℕ). get_or (set xs i v) j 0) q ∙ get_or-set_same xs i v 0 l ∙ e ∙ ap f (sym q))
    (λ (q : k ≡ i → ⊥). get_or-set_other xs i k v 0 q ∙ h k (omega arith))
    (eq_or_ne k i)

pub both_left : (a b : Bool) → T (both a b) → T a
both_left true b t = tt
both_left false b t = t

pub both_right : (a b : Bool) → T (both a b) → T b
both_right true b t = t
both_right false b t = absurd t

-- laws of tests, besides those of the kit
pub true_false : (t : Bool) → t ≡ true → t ≡ false → ⊥
true_false t a b = true≢false (sym a ∙ b)

pub both_true : (a b : Bool) → both a b ≡ true → (a ≡ true) × (b ≡ true)
both_true true b e = (refl, e)
both_true false b e = absurd (false≢true e)

pub both_yes : (t : Bool) → both t true ≡ t
both_yes true = refl
both_yes false = refl

pub both_false : (t : Bool) → both t false ≡ false
both_false true = refl
both_false false = refl

pub either_left : (a b : Bool) → a ≡ true → a || b ≡ true
either_left a b e = rw e refl

pub either_right : (a b : Bool) → b ≡ true → a || b ≡ true
either_right true b e = refl
either_right false b e = e

pub either_true : (a b : Bool) → a || b ≡ true → (a ≡ true → ⊥) → b ≡ true
either_true true b e n = absurd (n refl)
either_true false b e n = e

pub either_false : (a b : Bool) → a || b ≡ false → (a ≡ false) × (b ≡ false)
either_false true b e = absurd (true≢false e)
either_false false b e = (refl, e)

-- a test of every number below n, which antt computes
abbrev pub all_below : ℕ → (ℕ → Bool) → Bool
all_below zero p = true
all_below (suc n) p = both (p n) (all_below n p)

-- what it says of each
pub below_all : (n : ℕ) (p : ℕ → Bool) → T (all_below n p) → (i : ℕ) → i < n → T (p i)
below_all zero p t i h = absurd (omega arith)
below_all (suc n) p t i h =
    ⊎_elim
    (λ (l : i < n). below_all n p (both_right (p n) (all_below n p) t) i l)
    (λ (l : n ≤ i). let e : n ≡ i = omega arith in rw e at (both_left (p n) (all_below n p) t))
    (lt_or_le i n)
