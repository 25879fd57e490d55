-- Sums joined by `bit_or`: where the joined number is 0, so is each of them.
use mathlib.Core.Path.{◌≡◌, refl, sym, ap, ◌∙◌}
use mathlib.Core.List.{List}
use mathlib.Core.Logic.{⊎_elim}
use Prim.Native.Nat.{ℕ, ◌+◌, ◌*◌, ◌≤◌, ◌<◌}
use native.Mathlib.Omega.{arith}
use lib.Bits.{bit_or}
use lib.ListN.{length, get_or, set, length-set}
use lib.Seq.{get_or-set_same, get_or-set_other}
use Rattle.bits.proofs.Laws.Choice.{eq_or_ne, lt_or_le}
use Rattle.bits.proofs.Laws.Sum.{or_zero}
use Rattle.decoder_columns.specs.Inner.{sum_at, Joined}

module _ (a b c : List ℕ) (p q at : ℕ) where
  pub joined_none : (before : List ℕ) → Joined a b c p q at 0 before before
  joined_none before = record { long = refl; here = λ t l. absurd (omega arith); later = λ t l. refl }

  pub joined_more : (before after : List ℕ) (t : ℕ) → t < length after → Joined a b c p q at t before after
      → Joined a b c p q at (t + 1) before (set after t (bit_or (get_or after t 0) (sum_at a b c p q (at + t))))
  joined_more before after t l j =
      let v : ℕ = bit_or (get_or after t 0) (sum_at a b c p q (at + t)) in
      record {
        long = length-set after t v ∙ j.long;
        here = λ k h. ⊎_elim
            (λ (e : k ≡ t). rw e (get_or-set_same after t v 0 l ∙ ap (λ (w : ℕ). bit_or w (sum_at a b c p q (at + t))) (j.later t (omega arith))))
            (λ (e : k ≡ t → ⊥). get_or-set_other after t k v 0 e ∙ j.here k (omega arith))
            (eq_or_ne k t);
        later = λ k h. get_or-set_other after t k v 0 (λ e. omega arith) ∙ j.later k (omega arith);
      }

-- what the first u times 48 places have left
pub record Cleared (a b c : List ℕ) (p q u : ℕ) (joined : List ℕ) : Type 0 where
  pub size : length joined ≡ 48
  pub none : (t : ℕ) → t < 48 → get_or joined t 0 ≡ 0 → (k : ℕ) → k < u → sum_at a b c p q (48 * k + t) ≡ 0

module _ (a b c : List ℕ) (p q : ℕ) where
  pub cleared_none : (joined : List ℕ) → length joined ≡ 48 → Cleared a b c p q 0 joined
  cleared_none joined e = record { size = e; none = λ t l z k h. absurd (omega arith) }

  pub cleared_more : (u : ℕ) (before after : List ℕ) → Joined a b c p q (48 * u) 48 before after → Cleared a b c p q u before → Cleared a b c p q (u + 1) after
  cleared_more u before after j h =
      record {
        size = j.long ∙ h.size;
        none = λ t l z k m.
            let parts = or_zero (get_or before t 0) (sum_at a b c p q (48 * u + t)) (sym (j.here t l) ∙ z) in
            ⊎_elim
            (λ (e : k < u). h.none t l parts.0 k e)
            (λ (e : u ≤ k). let d : k ≡ u = omega arith in rw d parts.1)
            (lt_or_le k u);
      }
