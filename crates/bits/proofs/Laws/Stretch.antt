-- Bytes laid into a list: none, one more, all.
use mathlib.Core.Path.{◌≡◌, refl, ap, ◌∙◌}
use mathlib.Core.List.{List}
use mathlib.Core.Logic.{⊎_elim}
use Prim.Native.Nat.{ℕ, ◌+◌, ◌-◌, ◌*◌, ◌≤◌, ◌<◌}
use native.Mathlib.Omega.{arith}
use lib.ListN.{length, get_or, set, length-set}
use lib.Seq.{get_or-set_same, get_or-set_other}
use borrow.Author.Rules.{rules}
use borrow.Rule.Slice.PartMut.{put_mid}
use Rattle.std.proofs.lemmas.List.{places}
use Rattle.bits.proofs.Laws.Choice.{lt_or_le}
use Rattle.bits.specs.Pack.{val, bytes_of}
use Rattle.bits.proofs.Laws.Pack.{val_same, bytes_by_byte}
use Rattle.bits.specs.Inner.{Laid}

pub laid_none : (before : List ℕ) (at : ℕ) (f : ℕ → ℕ) → Laid before at 0 f before
laid_none before at f = record { long = refl; earlier = λ k l. refl; here = λ t l. absurd (omega arith); later = λ k l. refl }

-- more bytes after those that are laid
pub laid_on : (before middle after : List ℕ) (at m n : ℕ) (f g : ℕ → ℕ) → Laid before at m f middle → Laid middle (at + m) n g after
    → ((u : ℕ) → u < 8 * n → g u ≡ f (8 * m + u)) → Laid before at (m + n) f after
laid_on before middle after at m n f g p q same =
    record {
      long = q.long ∙ p.long;
      earlier = λ k l. q.earlier k (omega arith) ∙ p.earlier k l;
      here = λ t l. ⊎_elim
          (λ (h : t < m). q.earlier (at + t) (omega arith) ∙ p.here t h)
          (λ (h : m ≤ t).
          let e : at + t ≡ at + m + (t - m) = omega arith in
          ap (λ (i : ℕ). get_or after i 0) e ∙ q.here (t - m) (omega arith)
          ∙ val_same (λ u. g (8 * (t - m) + u)) (λ u. f (8 * t + u)) 8 (λ u k. same (8 * (t - m) + u) (omega arith) ∙ ap f (omega arith)))
          (lt_or_le t m);
      later = λ k l. q.later k (omega arith) ∙ p.later k (omega arith);
    }

-- the same bits
pub laid_same : (before after : List ℕ) (at n : ℕ) (f g : ℕ → ℕ) → ((u : ℕ) → u < 8 * n → f u ≡ g u) → Laid before at n f after → Laid before at n g after
laid_same before after at n f g same l =
    record {
      long = l.long;
      earlier = l.earlier;
      here = λ t h. l.here t h ∙ val_same (λ u. f (8 * t + u)) (λ u. g (8 * t + u)) 8 (λ u k. same (8 * t + u) (omega arith));
      later = l.later;
    }

-- one byte
pub laid_one : (before : List ℕ) (at v : ℕ) (f : ℕ → ℕ) → at < length before → v ≡ val f 8 → Laid before at 1 f (set before at v)
laid_one before at v f l e =
    record {
      long = length-set before at v;
      earlier = λ k h. get_or-set_other before at k v 0 (λ q. omega arith);
      here = λ t h.
          let z : at + t ≡ at = omega arith in
          ap (λ (i : ℕ). get_or (set before at v) i 0) z ∙ get_or-set_same before at v 0 l ∙ e ∙ val_same f (λ u. f (8 * t + u)) 8 (λ u k. ap f (omega arith));
      later = λ k h. get_or-set_other before at k v 0 (λ q. omega arith);
    }

-- all of them
pub laid_all : (before after : List ℕ) (n : ℕ) (f : ℕ → ℕ) → length before ≡ n → Laid before 0 n f after → after ≡ bytes_of n f
laid_all before after n f e l =
    bytes_by_byte n f after (l.long ∙ e) (λ i h. let z : i ≡ 0 + i = omega arith in ap (λ (k : ℕ). get_or after k 0) z ∙ l.here i h)

-- all of them at once, copied over a part
pub laid_part : (before part : List ℕ) (at n : ℕ) (f : ℕ → ℕ) → at + n ≤ length before → length part ≡ n → ((t : ℕ) → t < n → get_or part t 0 ≡ val (λ u. f (8 * t + u)) 8)
    → Laid before at n f (put_mid at (at + n - at) before part)
laid_part before part at n f room long same =
    record {
      long = search (rules, places);
      earlier = λ k l. search (rules, places);
      here = λ t l. let here : get_or (put_mid at (at + n - at) before part) (at + t) 0 ≡ get_or part t 0 = search (rules, places) in here ∙ same t l;
      later = λ k l. search (rules, places);
    }
