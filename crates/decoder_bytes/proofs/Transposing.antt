-- Columns dealt to rows, and the rows' bits.
use mathlib.Core.Path.{◌≡◌, refl, ap, ap₂, ◌∙◌}
use mathlib.Core.List.{List}
use mathlib.Core.Logic.{⊎_elim}
use Prim.Native.Nat.{ℕ, ◌+◌, ◌-◌, ◌*◌, ◌/◌, ◌%◌, ◌^◌, ◌≤◌, ◌<◌}
use native.Mathlib.Omega.{arith}
use native.Mathlib.Nat.{mul_assoc, mul-le-mul, le_refl}
use lib.ListN.{length, get_or, set, length-set}
use lib.Seq.{get_or-set_same, get_or-set_other}
use borrow.Author.Tests.{eq-eqb, ne_eqb}
use Rattle.bits.proofs.Laws.Choice.{lt_or_le, eq_or_ne}
use Rattle.bits.specs.Inner.{Copied}
use Rattle.bits.specs.Pack.{bit_at}
use Rattle.transpose.specs.Inner.{Transposed}
use Rattle.decoder_bytes.specs.Inner.{source, Takes, Dealt, Stacked, Taken}

-- ---- a row that is dealt

pub dealt_none : (from : List ℕ) (x step at : ℕ) (before : List ℕ) → Dealt from x step 0 at before before
dealt_none from x step at before = record { long = refl; here = λ g l. absurd (omega arith); other = λ k h. refl }

pub dealt_more : (from : List ℕ) (x step n at v : ℕ) (before after : List ℕ) → at + n < length after → v ≡ get_or from (x + step * n) 0
    → Dealt from x step n at before after → Dealt from x step (n + 1) at before (set after (at + n) v)
dealt_more from x step n at v before after l e d =
    record {
      long = length-set after (at + n) v ∙ d.long;
      here = λ g h. ⊎_elim
          (λ (q : g ≡ n). rw q (get_or-set_same after (at + n) v 0 l ∙ e))
          (λ (q : g ≡ n → ⊥). get_or-set_other after (at + n) (at + g) v 0 (λ w. q (omega arith)) ∙ d.here g (omega arith))
          (eq_or_ne g n);
      other = λ k h. get_or-set_other after (at + n) k v 0 (λ w. h (omega arith) (omega arith)) ∙ d.other k (λ a b. h a (omega arith));
    }

-- ---- eight rows

-- a place of one row is in no other
row_apart : (n r q g : ℕ) → g < n → (r ≡ q → ⊥) → n * q ≤ n * r + g → n * r + g < n * q + n → ⊥
row_apart n r q g h ne a b =
    ⊎_elim
    (λ (l : r < q). let m : r + 1 ≤ q = omega arith in let e = mul-le-mul (le_refl n) m in absurd (omega arith))
    (λ (l : q ≤ r). let m : q + 1 ≤ r = omega (arith, ne) in let e = mul-le-mul (le_refl n) m in absurd (omega arith))
    (lt_or_le r q)

-- what is dealt to two rows of the eight lies within the columns and within the room
pub record Deals (x y s n j : ℕ) : Type 0 where
  pub some : 1 ≤ n
  pub few : n ≤ 180
  pub step : s * j ≤ 18
  pub inside : (z g : ℕ) → z ≤ 6 → g < n → z + s * j + 4 * s * g < 2168
  pub a_row : n * (7 - 2 * j) + n ≤ 1440
  pub b_row : n * (6 - 2 * j) + n ≤ 1440

pub deals : {a b : List ℕ} (x y s n j : ℕ) → Takes a b x y s n → j < 4 → Deals x y s n j
deals x y s n j t l =
    let e = t.all in
    let some = t.some in
    let most = t.few in
    let few : n ≤ 180 = omega (arith, mul-le-mul some (le_refl n)) in
    let three : j ≤ 3 = omega arith in
    let step : s * j ≤ s * 3 = mul-le-mul (le_refl s) three in
    let high : 7 - 2 * j ≤ 7 = omega arith in
    let low : 6 - 2 * j ≤ 7 = omega arith in
    record {
      some = omega (arith, mul-le-mul most (le_refl n));
      few = few;
      step = omega arith;
      inside = λ z g h k.
          let m : g + 1 ≤ n = omega arith in
          let on : s * (g + 1) ≤ s * n = mul-le-mul (le_refl s) m in
          let group : 4 * s * g ≡ 4 * (s * g) = mul_assoc 4 s g in
          omega arith;
      a_row = omega (arith, mul-le-mul (le_refl n) high);
      b_row = omega (arith, mul-le-mul (le_refl n) low);
    }

module _ (a b : List ℕ) (x y s n : ℕ) where
  -- the place of a column: groups are 4 s apart
  place : (z j g : ℕ) → z + s * j + 4 * s * g ≡ z + 4 * (s * g) + s * j
  place z j g = let e : 4 * s * g ≡ 4 * (s * g) = mul_assoc 4 s g in omega arith

  pub stacked_more : (j : ℕ) (before mid after : List ℕ) → j < 4 → Dealt a (x + s * j) (4 * s) n (n * (7 - 2 * j)) before mid
      → Dealt b (y + s * j) (4 * s) n (n * (6 - 2 * j)) mid after → Stacked a b x y s n (2 * j) before → Stacked a b x y s n (2 * (j + 1)) after
  unfolding source
  stacked_more j before mid after hj da db h u g hu hg =
      ⊎_elim
      (λ (l : u < 2 * j).
      db.other (n * (7 - u) + g) (row_apart n (7 - u) (6 - 2 * j) g hg (λ e. omega arith))
      ∙ da.other (n * (7 - u) + g) (row_apart n (7 - u) (7 - 2 * j) g hg (λ e. omega arith))
      ∙ h u g l hg)
      (λ (l : 2 * j ≤ u). ⊎_elim
      (λ (e : u ≡ 2 * j).
      let even : u % 2 ≡ 0 = omega arith in
      let half : j ≡ u / 2 = omega arith in
      rw (eq-eqb (u % 2) 0 even)
      (db.other (n * (7 - u) + g) (row_apart n (7 - u) (6 - 2 * j) g hg (λ q. omega arith))
      ∙ ap (λ (k : ℕ). get_or mid (n * (7 - k) + g) 0) e
      ∙ da.here g hg
      ∙ ap (λ (k : ℕ). get_or a k 0) (place x j g ∙ ap (λ (k : ℕ). x + 4 * (s * g) + s * k) half)))
      (λ (e : u ≡ 2 * j → ⊥).
      let odd : u % 2 ≡ 0 → ⊥ = λ q. omega arith in
      let half : j ≡ u / 2 = omega arith in
      let row : 7 - u ≡ 6 - 2 * j = omega arith in
      rw (ne_eqb (u % 2) 0 odd)
      (ap (λ (k : ℕ). get_or after (n * k + g) 0) row
      ∙ db.here g hg
      ∙ ap (λ (k : ℕ). get_or b k 0) (place y j g ∙ ap (λ (k : ℕ). y + 4 * (s * g) + s * k) half)))
      (eq_or_ne u (2 * j)))
      (lt_or_le u (2 * j))

  -- rows and bits change places
  pub taken_made : (room turned before out : List ℕ) → Stacked a b x y s n 8 room → Transposed n room turned → Copied turned 0 before 0 (7 * n) out
      → Taken a b x y s n out
  unfolding bit_at
  taken_made room turned before out st turn c g r u hg hr hu =
      let d : (8 * (g + n * r) + u) / 8 ≡ g + n * r = omega arith in
      let m : (8 * (g + n * r) + u) % 8 ≡ u = omega arith in
      let last : r ≤ 6 = omega arith in
      let inside : g + n * r < 7 * n = omega (arith, mul-le-mul (le_refl n) last) in
      let first : g + n * r ≡ 0 + (g + n * r) = omega arith in
      let row : 0 + (g + n * r) ≡ n * r + g = omega arith in
      ap₂ (λ (p q : ℕ). get_or out p 0 / 2 ^ (7 - q) % 2) (d ∙ first) m
      ∙ ap (λ (v : ℕ). v / 2 ^ (7 - u) % 2) (c.here (g + n * r) inside ∙ ap (λ (k : ℕ). get_or turned k 0) row)
      ∙ turn.cells r (7 - u) g (omega arith) (omega arith) hg
      ∙ ap (λ (v : ℕ). v / 2 ^ r % 2) (st u g hu hg)
