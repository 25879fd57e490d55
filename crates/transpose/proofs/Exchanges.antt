-- Bytes that change places bit by bit, and three stages of it that make a transposition.
use mathlib.Core.Path.{◌≡◌, refl, sym, ap, ap₂, ◌∙◌}
use mathlib.Core.Bool.{Bool}
use mathlib.Core.List.{List}
use mathlib.Core.Logic.{⊎_elim}
use Prim.Native.Nat.{ℕ, ◌+◌, ◌-◌, ◌*◌, ◌/◌, ◌%◌, ◌^◌, ◌≤◌, ◌<◌}
use native.Mathlib.Omega.{arith}
use native.Mathlib.Nat.{div-eq_of_lt, div-add-mod', mod-lt, mul-add, mul_comm, mul-le-mul, le_refl, le-div_iff_mul-le}
use lib.Bits.{bit_and, bit_or, and_mask, and_zero_r, and_shr, and_mod, or_shr, or_mod, or_zero_l, or_zero_r}
use lib.Dec.{T, ltb, eqb, eqb→eq, ltb→lt}
use lib.ListN.{length, get_or, set, length-set}
use lib.Pow.{shr-shr}
use lib.Seq.{get_or-set_same, get_or-set_other}
use Rattle.bits.proofs.Laws.Choice.{bit_cases, lt_or_le, eq_or_ne}
use Rattle.bits.proofs.Laws.Field.{digit, shifted_digit, shifted_below}
use Rattle.bits.specs.Basics.{both}
use Rattle.bits.proofs.Laws.Table.{both_left, both_right, all_below, below_all}
use Rattle.transpose.specs.Inner.{cell, Mask, low_of, high_of, Exchanged, swap_from, Stage, Transposed}

-- ---- two bytes

or_digit : (a b k : ℕ) → bit_or a b / 2 ^ k % 2 ≡ bit_or (a / 2 ^ k % 2) (b / 2 ^ k % 2)
or_digit a b k = ap (λ (v : ℕ). v % 2) (or_shr a b k) ∙ or_mod (a / 2 ^ k) (b / 2 ^ k) 1

and_digit : (a b k : ℕ) → bit_and a b / 2 ^ k % 2 ≡ bit_and (a / 2 ^ k % 2) (b / 2 ^ k % 2)
and_digit a b k = ap (λ (v : ℕ). v % 2) (and_shr a b k) ∙ and_mod (a / 2 ^ k) (b / 2 ^ k) 1

-- a digit that the mask lets through, and one that it does not
and_one : (a m k : ℕ) → m / 2 ^ k % 2 ≡ 1 → bit_and a m / 2 ^ k % 2 ≡ a / 2 ^ k % 2
and_one a m k e = and_digit a m k ∙ ap (bit_and (a / 2 ^ k % 2)) e ∙ and_mask (a / 2 ^ k % 2) 1 ∙ omega arith

and_none : (a m k : ℕ) → m / 2 ^ k % 2 ≡ 0 → bit_and a m / 2 ^ k % 2 ≡ 0
and_none a m k e = and_digit a m k ∙ ap (bit_and (a / 2 ^ k % 2)) e ∙ and_zero_r (a / 2 ^ k % 2)

-- `x << e` on eight bits
up_digit : (x e k : ℕ) → e ≤ k → k < 8 → x * 2 ^ e % 2 ^ 8 / 2 ^ k % 2 ≡ x / 2 ^ (k - e) % 2
up_digit x e k h l = digit (x * 2 ^ e) 8 k l ∙ shifted_digit x e k h

up_below : (x e k : ℕ) → k < e → k < 8 → x * 2 ^ e % 2 ^ 8 / 2 ^ k % 2 ≡ 0
up_below x e k h l = digit (x * 2 ^ e) 8 k l ∙ shifted_below x e k h

module _ (e m a b k : ℕ) (mask : Mask e m) (l : k < 8) where
  -- an odd place of e has one before it
  odd_le : k / e % 2 ≡ 1 → e ≤ k
  odd_le o =
      ⊎_elim
      (λ (h : k < e). let z : k / e ≡ 0 = div-eq_of_lt h in absurd (omega arith))
      (λ (h : e ≤ k). h)
      (lt_or_le k e)

  low_even : k / e % 2 ≡ 0 → low_of e m a b / 2 ^ k % 2 ≡ a / 2 ^ k % 2
  unfolding low_of
  low_even o =
      let here : m / 2 ^ k % 2 ≡ 1 = mask.even k l ∙ ap (λ (v : ℕ). 1 - v) o in
      or_digit (bit_and a m) (bit_and b m * 2 ^ e % 2 ^ 8) k
      ∙ ap₂ bit_or (and_one a m k here) none
      ∙ or_zero_r (a / 2 ^ k % 2)
    where
      none : bit_and b m * 2 ^ e % 2 ^ 8 / 2 ^ k % 2 ≡ 0
      none =
          ⊎_elim
          (λ (h : k < e). up_below (bit_and b m) e k h l)
          (λ (h : e ≤ k). up_digit (bit_and b m) e k h l ∙ and_none b m (k - e) (sym (up_digit m e k h l) ∙ mask.odd k l ∙ o))
          (lt_or_le k e)

  low_odd : k / e % 2 ≡ 1 → low_of e m a b / 2 ^ k % 2 ≡ b / 2 ^ (k - e) % 2
  unfolding low_of
  low_odd o =
      let h : e ≤ k = odd_le o in
      let here : m / 2 ^ k % 2 ≡ 0 = mask.even k l ∙ ap (λ (v : ℕ). 1 - v) o in
      or_digit (bit_and a m) (bit_and b m * 2 ^ e % 2 ^ 8) k
      ∙ ap₂ bit_or (and_none a m k here)
      (up_digit (bit_and b m) e k h l ∙ and_one b m (k - e) (sym (up_digit m e k h l) ∙ mask.odd k l ∙ o))
      ∙ or_zero_l (b / 2 ^ (k - e) % 2)

  high_even : k / e % 2 ≡ 0 → high_of e m a b / 2 ^ k % 2 ≡ a / 2 ^ (k + e) % 2
  unfolding high_of
  high_even o =
      let here : m / 2 ^ k % 2 ≡ 1 = mask.even k l ∙ ap (λ (v : ℕ). 1 - v) o in
      let place : e + k ≡ k + e = omega arith in
      or_digit (bit_and (a / 2 ^ e) m) (bit_and b (m * 2 ^ e % 2 ^ 8)) k
      ∙ ap₂ bit_or (and_one (a / 2 ^ e) m k here) (and_none b (m * 2 ^ e % 2 ^ 8) k (mask.odd k l ∙ o))
      ∙ or_zero_r (a / 2 ^ e / 2 ^ k % 2)
      ∙ ap (λ (v : ℕ). v % 2) (shr-shr a e k ∙ ap (λ (j : ℕ). a / 2 ^ j) place)

  high_odd : k / e % 2 ≡ 1 → high_of e m a b / 2 ^ k % 2 ≡ b / 2 ^ k % 2
  unfolding high_of
  high_odd o =
      let here : m / 2 ^ k % 2 ≡ 0 = mask.even k l ∙ ap (λ (v : ℕ). 1 - v) o in
      or_digit (bit_and (a / 2 ^ e) m) (bit_and b (m * 2 ^ e % 2 ^ 8)) k
      ∙ ap₂ bit_or (and_none (a / 2 ^ e) m k here) (and_one b (m * 2 ^ e % 2 ^ 8) k (mask.odd k l ∙ o))
      ∙ or_zero_l (b / 2 ^ k % 2)

-- ---- a loop over the bytes

pub exchanged_none : (e m d at : ℕ) (s : List ℕ) → Exchanged e m d at 0 s s
exchanged_none e m d at s =
    record { long = refl; low = λ y a b. absurd (omega arith); high = λ y a b. absurd (omega arith); other = λ y a b. refl }

pub exchanged_more : (e m d at n : ℕ) (before after : List ℕ) → n < d → at + n + d < length after → Exchanged e m d at n before after
    → (x y : ℕ) → x ≡ low_of e m (get_or after (at + n) 0) (get_or after (at + n + d) 0) → y ≡ high_of e m (get_or after (at + n) 0) (get_or after (at + n + d) 0)
    → Exchanged e m d at (n + 1) before (set (set after (at + n) x) (at + n + d) y)
exchanged_more e m d at n before after l r s x y ex ey =
    record {
      long = length-set (set after (at + n) x) (at + n + d) y ∙ length-set after (at + n) x ∙ s.long;
      low = λ z a b. ⊎_elim
          (λ (q : z ≡ at + n). rw q (first ∙ ex ∙ given))
          (λ (q : z ≡ at + n → ⊥). apart z q (λ w. omega arith) ∙ s.low z a (omega arith))
          (eq_or_ne z (at + n));
      high = λ z a b. ⊎_elim
          (λ (q : z ≡ at + n). rw q (get_or-set_same (set after (at + n) x) (at + n + d) y 0 room ∙ ey ∙ given'))
          (λ (q : z ≡ at + n → ⊥). apart (z + d) (λ w. omega arith) (λ w. q (omega arith)) ∙ s.high z a (omega arith))
          (eq_or_ne z (at + n));
      other = λ z a b. apart z (λ w. a (omega arith) (omega arith)) (λ w. b (omega arith) (omega arith)) ∙ s.other z (λ u v. a u (omega arith)) (λ u v. b u (omega arith));
    }
  where
    room : at + n + d < length (set after (at + n) x)
    room = rw (length-set after (at + n) x) r

    first : get_or (set (set after (at + n) x) (at + n + d) y) (at + n) 0 ≡ x
    first = get_or-set_other (set after (at + n) x) (at + n + d) (at + n) y 0 (λ w. omega arith) ∙ get_or-set_same after (at + n) x 0 (omega arith)

    apart : (z : ℕ) → (z ≡ at + n → ⊥) → (z ≡ at + n + d → ⊥) → get_or (set (set after (at + n) x) (at + n + d) y) z 0 ≡ get_or after z 0
    apart z p q = get_or-set_other (set after (at + n) x) (at + n + d) z y 0 q ∙ get_or-set_other after (at + n) z x 0 p

    same : (z : ℕ) → (at ≤ z → z < at + n → ⊥) → (at + d ≤ z → z < at + d + n → ⊥) → get_or after z 0 ≡ get_or before z 0
    same = s.other

    here : get_or after (at + n) 0 ≡ get_or before (at + n) 0
    here = same (at + n) (λ u v. omega arith) (λ u v. omega arith)

    there : get_or after (at + n + d) 0 ≡ get_or before (at + n + d) 0
    there = same (at + n + d) (λ u v. omega arith) (λ u v. omega arith)

    given : low_of e m (get_or after (at + n) 0) (get_or after (at + n + d) 0) ≡ low_of e m (get_or before (at + n) 0) (get_or before (at + n + d) 0)
    given = ap₂ (low_of e m) here there

    given' : high_of e m (get_or after (at + n) 0) (get_or after (at + n + d) 0) ≡ high_of e m (get_or before (at + n) 0) (get_or before (at + n + d) 0)
    given' = ap₂ (high_of e m) here there

-- ---- two times e rows more

-- the places that turn k of n works on
pub stage_fits : (w e n k l : ℕ) → 1 ≤ w → k < n → 2 * (w * (e * n)) ≤ l → (e * k + e ≤ l) × (2 * (w * (e * k)) + 2 * (w * e) ≤ l)
stage_fits w e n k l some h fits =
    let more : k + 1 ≤ n = omega arith in
    let rows : e * (k + 1) ≤ e * n = mul-le-mul (le_refl e) more in
    let bytes : w * (e * (k + 1)) ≤ w * (e * n) = mul-le-mul (le_refl w) rows in
    let once : 1 * (e * (k + 1)) ≤ w * (e * (k + 1)) = mul-le-mul some (le_refl (e * (k + 1))) in
    (omega arith, omega (arith, bytes, mul-add w (e * k) e, once))

pub stage_none : (w e : ℕ) (s : List ℕ) → Stage w e 0 s s
stage_none w e s = record { long = refl; done = λ t d i h l r. absurd (omega arith); rest = λ t i h r. refl }

module _ (w e m k : ℕ) (before s after : List ℕ) (mask : Mask e m) (st : Stage w e k before s) (x : Exchanged e m (w * e) (2 * (w * (e * k))) (w * e) s after) where
  pos : 0 < e
  pos = let h = mask.some in omega arith

  -- row t, by the places of e
  before_rows : (t : ℕ) → t / e < 2 * k → t < 2 * (e * k)
  before_rows t h =
      let q : t / e + 1 ≤ 2 * k = omega arith in
      omega (arith, div-add-mod' t e, mod-lt t pos, mul-le-mul q (le_refl e), mul_comm k e)

  behind_rows : (t j : ℕ) → j ≤ t / e → j * e ≤ t
  behind_rows t j h = omega (arith, div-add-mod' t e, mul-le-mul h (le_refl e))

  -- a row that was not touched yet
  kept : (t i : ℕ) → (2 * k) * e ≤ t → i < w → get_or s (w * t + i) 0 ≡ get_or before (w * t + i) 0
  kept t i h r = st.rest t i ((le-div_iff_mul-le pos).1 h) r

  -- the places of rows, by w
  scaled : {a b : ℕ} → a ≤ b → w * a ≤ w * b
  scaled h = mul-le-mul (le_refl w) h

  module _ (t d i : ℕ) (l : d < 8) (r : i < w) where
    even_row : t / e ≡ 2 * k → cell w after t d i ≡ cell w before (swap_from e t d) (swap_from e d t) i
    even_row q =
        let z : t / e % 2 ≡ 0 = omega arith in
        let lo : (2 * k) * e ≤ t = behind_rows t (2 * k) (omega arith) in
        let p : t ≡ 2 * (e * k) + t % e = sym (div-add-mod' t e) ∙ ap (λ (j : ℕ). j * e + t % e) q ∙ omega (arith, mul_comm k e) in
        let y : ℕ = w * t + i in
        let at : w * t ≡ w * (2 * (e * k) + t % e) = ap (λ (j : ℕ). w * j) p in
        let inside : w * (t % e + 1) ≤ w * e = scaled (omega (arith, mod-lt t pos)) in
        let partner : y + w * e ≡ w * (t + e) + i = omega arith in
        let a : ℕ = get_or before y 0 in
        let b : ℕ = get_or before (w * (t + e) + i) 0 in
        let made : get_or after y 0 ≡ low_of e m a b =
        x.low y (omega arith) (omega arith)
        ∙ ap₂ (low_of e m) (kept t i lo r) (ap (λ (j : ℕ). get_or s j 0) partner ∙ kept (t + e) i (omega arith) r) in
        ap (λ (v : ℕ). v / 2 ^ d % 2) made ∙ ⊎_elim
        (λ (o : d / e % 2 ≡ 0). low_even e m a b d mask l o ∙ sym (rw (z, o) (ap₂ (λ (u v : ℕ). cell w before u v i) (omega arith) (omega arith))))
        (λ (o : d / e % 2 ≡ 1). low_odd e m a b d mask l o ∙ sym (rw (z, o) (ap₂ (λ (u v : ℕ). cell w before u v i) (omega arith) (omega arith))))
        (bit_cases (d / e % 2) (omega arith))

    odd_row : t / e ≡ 2 * k + 1 → cell w after t d i ≡ cell w before (swap_from e t d) (swap_from e d t) i
    odd_row q =
        let z : t / e % 2 ≡ 1 = omega arith in
        let lo : (2 * k) * e ≤ t = behind_rows t (2 * k) (omega arith) in
        let p : t ≡ 2 * (e * k) + e + t % e = sym (div-add-mod' t e) ∙ ap (λ (j : ℕ). j * e + t % e) q ∙ omega (arith, mul_comm k e) in
        let u : ℕ = t - e in
        let y : ℕ = w * u + i in
        let up : u ≡ 2 * (e * k) + t % e = omega arith in
        let at : w * u ≡ w * (2 * (e * k) + t % e) = ap (λ (j : ℕ). w * j) up in
        let inside : w * (t % e + 1) ≤ w * e = scaled (omega (arith, mod-lt t pos)) in
        let back : u + e ≡ t = omega arith in
        let next : w * (u + e) ≡ w * t = ap (λ (j : ℕ). w * j) back in
        let partner : y + w * e ≡ w * t + i = omega arith in
        let a : ℕ = get_or before y 0 in
        let b : ℕ = get_or before (w * t + i) 0 in
        let made : get_or after (w * t + i) 0 ≡ high_of e m a b =
        ap (λ (j : ℕ). get_or after j 0) (sym partner)
        ∙ x.high y (omega arith) (omega arith)
        ∙ ap₂ (high_of e m) (kept u i (omega (arith, mul_comm k e)) r) (ap (λ (j : ℕ). get_or s j 0) partner ∙ kept t i lo r) in
        ap (λ (v : ℕ). v / 2 ^ d % 2) made ∙ ⊎_elim
        (λ (o : d / e % 2 ≡ 0). high_even e m a b d mask l o ∙ sym (rw (z, o) (ap₂ (λ (u v : ℕ). cell w before u v i) (omega arith) (omega arith))))
        (λ (o : d / e % 2 ≡ 1).
        let h : e ≤ d = odd_le e m a b d mask l o in
        high_odd e m a b d mask l o ∙ sym (rw (z, o) (ap₂ (λ (u v : ℕ). cell w before u v i) (omega arith) (omega arith))))
        (bit_cases (d / e % 2) (omega arith))

  pub stage_more : Stage w e (k + 1) before after
  stage_more =
      record {
        long = x.long ∙ st.long;
        done = λ t d i h l r. ⊎_elim
            (λ (q : t / e < 2 * k).
            let u : w * (t + 1) ≤ w * (2 * (e * k)) = scaled (omega (arith, before_rows t q)) in
            ap (λ (v : ℕ). v / 2 ^ d % 2) (x.other (w * t + i) (λ a b. omega arith) (λ a b. omega arith)) ∙ st.done t d i q l r)
            (λ (q : 2 * k ≤ t / e). ⊎_elim
            (λ (z : t / e ≡ 2 * k). even_row t d i l r z)
            (λ (z : t / e ≡ 2 * k → ⊥). odd_row t d i l r (next t z q h))
            (eq_or_ne (t / e) (2 * k)))
            (lt_or_le (t / e) (2 * k));
        rest = λ t i h r.
            let q : 2 * k + 2 ≤ t / e = omega arith in
            let u : (2 * k + 2) * e ≤ t = behind_rows t (2 * k + 2) q in
            let v : w * (2 * (e * k) + 2 * e) ≤ w * t = scaled (omega (arith, mul_comm k e)) in
            x.other (w * t + i) (λ a b. omega arith) (λ a b. omega arith) ∙ st.rest t i (omega arith) r;
      }
    where
      next : (t : ℕ) → (t / e ≡ 2 * k → ⊥) → 2 * k ≤ t / e → t / e < 2 * (k + 1) → t / e ≡ 2 * k + 1
      next t z q h = ⊎_elim (λ (l : t / e < 2 * k + 1). absurd (z (omega arith))) (λ (l : 2 * k + 1 ≤ t / e). omega arith) (lt_or_le (t / e) (2 * k + 1))

-- ---- all of them

-- a mask is right where this test passes, which antt computes
abbrev mask_test : ℕ → ℕ → ℕ → Bool
mask_test e m d = both (eqb (m / 2 ^ d % 2) (1 - d / e % 2)) (eqb (m * 2 ^ e % 2 ^ 8 / 2 ^ d % 2) (d / e % 2))

pub mask_right : (e m : ℕ) → 1 ≤ e → e < 8 → T (all_below 8 (mask_test e m)) → Mask e m
mask_right e m a b t =
    record {
      some = a;
      few = b;
      even = λ d l. eqb→eq (m / 2 ^ d % 2) (1 - d / e % 2) (both_left (eqb (m / 2 ^ d % 2) (1 - d / e % 2)) (eqb (m * 2 ^ e % 2 ^ 8 / 2 ^ d % 2) (d / e % 2)) (below_all 8 (mask_test e m) t d l));
      odd = λ d l. eqb→eq (m * 2 ^ e % 2 ^ 8 / 2 ^ d % 2) (d / e % 2) (both_right (eqb (m / 2 ^ d % 2) (1 - d / e % 2)) (eqb (m * 2 ^ e % 2 ^ 8 / 2 ^ d % 2) (d / e % 2)) (below_all 8 (mask_test e m) t d l));
    }

-- where a bit comes from through the last stage, the last two, and all three
abbrev one : ℕ → ℕ → ℕ
one t d = swap_from 1 t d

abbrev two : ℕ → ℕ → ℕ
two t d = swap_from 2 (one t d) (one d t)

abbrev four : ℕ → ℕ → ℕ
four t d = swap_from 4 (two t d) (two d t)

-- from row d: a test of all rows and bits, which antt computes
abbrev from_test : ℕ → ℕ → Bool
from_test t d = both (ltb (one t d) 8) (both (ltb (two t d) 8) (eqb (four t d) d))

from : (t d : ℕ) → t < 8 → d < 8 → (one t d < 8) × (two t d < 8) × (four t d ≡ d)
from t d ht hd =
    let r : T (from_test t d) = below_all 8 (from_test t) (below_all 8 (λ t. all_below 8 (from_test t)) tt t ht) d hd in
    let r' = both_right (ltb (one t d) 8) (both (ltb (two t d) 8) (eqb (four t d) d)) r in (
      ltb→lt (one t d) 8 (both_left (ltb (one t d) 8) (both (ltb (two t d) 8) (eqb (four t d) d)) r),
      ltb→lt (two t d) 8 (both_left (ltb (two t d) 8) (eqb (four t d) d) r'),
      eqb→eq (four t d) d (both_right (ltb (two t d) 8) (eqb (four t d) d) r'),
    )

pub transposed : (w : ℕ) → 1 ≤ w → (s₀ s₁ s₂ s₃ : List ℕ) → Stage w 4 1 s₀ s₁ → Stage w 2 2 s₁ s₂ → Stage w 1 4 s₂ s₃ → ((k : ℕ) → get_or s₃ k 0 < 256) → Transposed w s₀ s₃
transposed w some s₀ s₁ s₂ s₃ a b c small =
    record {
      long = c.long ∙ b.long ∙ a.long;
      small = small;
      cells = λ t d i ht hd l.
          let f = from t d ht hd in
          let g = from d t hd ht in
          c.done t d i (omega arith) hd l
          ∙ b.done (one t d) (one d t) i (omega arith) g.0 l
          ∙ a.done (two t d) (two d t) i (omega arith) g.1 l
          ∙ ap₂ (λ (u v : ℕ). cell w s₀ u v i) f.2 g.2;
      rest = λ k h.
          let t : ℕ = k / w in
          let i : ℕ = k % w in
          let behind : 8 ≤ t = (le-div_iff_mul-le some).1 h in
          let inside : i < w = mod-lt k some in
          let row : k ≡ w * t + i = sym (div-add-mod' k w) ∙ omega (arith, mul_comm t w) in
          rw row (c.rest t i (omega arith) inside ∙ b.rest t i (omega arith) inside ∙ a.rest t i (omega arith) inside);
    }
