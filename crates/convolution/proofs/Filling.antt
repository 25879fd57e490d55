-- Places filled from the front, one at a time or several.
use mathlib.Core.Path.{◌≡◌, refl, sym, ap, ◌∙◌}
use mathlib.Core.List.{List}
use mathlib.Core.Logic.{⊎_elim}
use Prim.Native.Nat.{ℕ, ◌+◌, ◌-◌, ◌≤◌, ◌<◌}
use native.Mathlib.Omega.{arith}
use lib.ListN.{length, get_or, set, length-set}
use lib.Seq.{get_or-set_same, get_or-set_other}
use Rattle.bits.proofs.Laws.Choice.{lt_or_le, eq_or_ne}
use Rattle.bits.specs.Inner.{Filled}
use Rattle.bits.specs.Basics.{tab}
use Rattle.bits.proofs.Laws.Table.{tab_made, fill}
use Rattle.convolution.specs.Inner.{Put}

-- of n places, those below i hold f's values
pub record Filling (f : ℕ → ℕ) (xs : List ℕ) (n i : ℕ) : Type 0 where
  pub size : length xs ≡ n
  pub below : Filled f xs i

pub filled_none : (f : ℕ → ℕ) (n : ℕ) (xs : List ℕ) → length xs ≡ n → Filling f xs n 0
filled_none f n xs e = record { size = e; below = λ k h. absurd (omega arith) }

pub filled_all : (f : ℕ → ℕ) (n : ℕ) (xs : List ℕ) (i : ℕ) → n ≤ i → Filling f xs n i → xs ≡ tab n f
filled_all f n xs i l h = tab_made n f xs h.size (λ k b. h.below k (omega arith))

module _ (f : ℕ → ℕ) (n : ℕ) (xs ys : List ℕ) where
  pub fill_one : (i v : ℕ) → i < n → v ≡ f i → ys ≡ set xs i v → Filling f xs n i → Filling f ys n (i + 1)
  fill_one i v l e m h =
      let b : i < length xs = omega (arith, h.size) in
      rw m (record { size = length-set xs i v ∙ h.size; below = fill xs f i v b e h.below })

  -- the places that were put after those that are filled
  pub fill_put : (i m : ℕ) (g : ℕ → ℕ) → Put xs i m g ys → ((t : ℕ) → t < m → g t ≡ f (i + t)) → Filling f xs n i → Filling f ys n (i + m)
  fill_put i m g p same h =
      record {
        size = p.long ∙ h.size;
        below = λ k b. ⊎_elim
            (λ (l : k < i). p.earlier k l ∙ h.below k l)
            (λ (l : i ≤ k).
            let e : i + (k - i) ≡ k = omega arith in
            ap (λ (j : ℕ). get_or ys j 0) (sym e) ∙ p.here (k - i) (omega arith) ∙ same (k - i) (omega arith) ∙ ap f e)
            (lt_or_le k i);
      }

-- ---- places that are put

pub put_none : (before : List ℕ) (at : ℕ) (f : ℕ → ℕ) → Put before at 0 f before
put_none before at f = record { long = refl; earlier = λ k l. refl; here = λ t l. absurd (omega arith) }

pub put_more : (before after : List ℕ) (at n v : ℕ) (f : ℕ → ℕ) → at + n < length after → v ≡ f n → Put before at n f after
    → Put before at (n + 1) f (set after (at + n) v)
put_more before after at n v f l e p =
    record {
      long = length-set after (at + n) v ∙ p.long;
      earlier = λ k b. get_or-set_other after (at + n) k v 0 (λ q. omega arith) ∙ p.earlier k b;
      here = λ t b. ⊎_elim
          (λ (q : t ≡ n). rw q (get_or-set_same after (at + n) v 0 l ∙ e))
          (λ (q : t ≡ n → ⊥). get_or-set_other after (at + n) (at + t) v 0 (λ r. q (omega arith)) ∙ p.here t (omega arith))
          (eq_or_ne t n);
    }

-- more after those
pub put_on : (before middle after : List ℕ) (at m n : ℕ) (f g : ℕ → ℕ) → Put before at m f middle → Put middle (at + m) n g after
    → ((u : ℕ) → u < n → g u ≡ f (m + u)) → Put before at (m + n) f after
put_on before middle after at m n f g p q same =
    record {
      long = q.long ∙ p.long;
      earlier = λ k b. q.earlier k (omega arith) ∙ p.earlier k b;
      here = λ t b. ⊎_elim
          (λ (l : t < m). q.earlier (at + t) (omega arith) ∙ p.here t l)
          (λ (l : m ≤ t).
          let e : at + t ≡ at + m + (t - m) = omega arith in
          let d : m + (t - m) ≡ t = omega arith in
          ap (λ (i : ℕ). get_or after i 0) e ∙ q.here (t - m) (omega arith) ∙ same (t - m) (omega arith) ∙ ap f d)
          (lt_or_le t m);
    }

-- the same values
pub put_same : (before after : List ℕ) (at n : ℕ) (f g : ℕ → ℕ) → Put before at n f after → ((t : ℕ) → t < n → f t ≡ g t) → Put before at n g after
put_same before after at n f g p same =
    record { long = p.long; earlier = p.earlier; here = λ t b. p.here t b ∙ same t b }
