-- An area whose bytes are those of another entry, and otherwise as they were, has that entry put there.
use mathlib.Core.Path.{◌≡◌, refl, sym, ap, ◌∙◌}
use mathlib.Core.Bool.{Bool, true, false}
use mathlib.Core.List.{List, ◌∷◌, ◌++◌}
use mathlib.Core.Logic.{⊎_elim}
use Prim.Native.Nat.{ℕ, zero, suc, ◌+◌, ◌-◌, ◌*◌, ◌/◌, ◌%◌, ◌≤◌, ◌<◌}
use native.Mathlib.Omega.{arith}
use lib.Dec.{eqb}
use lib.ListN.{length, get_or, set, take, drop, length-set}
use borrow.Rule.Slice.PartMut.{put_mid}
use Rattle.std.proofs.lemmas.List.{get_or_append_left, get_or-append_right, get_or-take, get_or-drop, length-take-le, length-append, length-drop}
use lib.Seq.{get_or-set_same, get_or-set_other}
use borrow.Author.Tests.{eqb-true, eqb-false}
use Rattle.bits.specs.Basics.{pick, tab}
use Rattle.bits.proofs.Laws.Choice.{lt_or_le}
use Rattle.bits.proofs.Laws.Table.{get_or_tab, tab_made, tab_same}
use Rattle.rack.specs.Rack.{entry_number, entry_at, put, status_in, header_in}
use Rattle.rack_entries.specs.Inner.{Written}

module _ (area : List ℕ) (o p : ℕ) where
  abbrev pub at : ℕ
  at = 11 * entry_number o p

  -- ---- what is read

  pub status_is : status_in (entry_at area o p) ≡ get_or area at 0
  unfolding entry_at
  status_is = get_or_tab 11 (λ k. get_or area (at + k) 0) 0 (omega arith) ∙ ap (λ (i : ℕ). get_or area i 0) (omega arith)

  header_is : header_in (entry_at area o p) ≡ tab 10 (λ k. get_or area (at + 1 + k) 0)
  unfolding entry_at tab
  header_is = tab_same 10 (λ k. get_or area (at + suc k) 0) (λ k. get_or area (at + 1 + k) 0) (λ k l. ap (λ (i : ℕ). get_or area i 0) (omega arith))

  pub header_copied : (after : List ℕ) (n k : ℕ) → n ≡ at + 1 → k ≡ 10 → length after ≡ 10 → after ≡ take k (drop n area) → after ≡ header_in (entry_at area o p)
  header_copied after n k en ek long e =
      tab_made 10 (λ k. get_or area (at + 1 + k) 0) after long (λ i l.
      ap (λ (xs : List ℕ). get_or xs i 0) e
      ∙ get_or-take k (drop n area) i 0 (omega arith)
      ∙ get_or-drop n area i 0
      ∙ ap (λ (m : ℕ). get_or area (m + i) 0) en)
      ∙ sym header_is

  -- ---- what is written

  put_made : (entry after : List ℕ) → length after ≡ length area → ((k : ℕ) → k < 11 → at + k < length area → get_or after (at + k) 0 ≡ get_or entry k 0)
      → ((i : ℕ) → (i / 11 ≡ entry_number o p → ⊥) → get_or after i 0 ≡ get_or area i 0) → after ≡ put area o p entry
  unfolding put
  put_made entry after long here elsewhere =
      tab_made (length area) (λ i. pick (eqb (i / 11) (entry_number o p)) (get_or entry (i % 11) 0) (get_or area i 0)) after long (λ i l. cases i l (eqb (i / 11) (entry_number o p)) refl)
    where
      cases : (i : ℕ) → i < length area → (t : Bool) → eqb (i / 11) (entry_number o p) ≡ t → get_or after i 0 ≡ pick t (get_or entry (i % 11) 0) (get_or area i 0)
      cases i l true e =
          let q : i / 11 ≡ entry_number o p = eqb-true (i / 11) (entry_number o p) e in
          let w : i ≡ at + i % 11 = omega arith in
          ap (λ (j : ℕ). get_or after j 0) w ∙ here (i % 11) (omega arith) (omega arith)
      cases i l false e = elsewhere i (eqb-false (i / 11) (entry_number o p) e)

  pub status_put : (status : ℕ) → at < length area → set area at status ≡ put area o p (status ∷ header_in (entry_at area o p))
  status_put status room =
      put_made (status ∷ header_in (entry_at area o p)) (set area at status) (length-set area at status) here
      (λ i n. get_or-set_other area at i status 0 (λ q. n (omega arith)))
    where
      here : (k : ℕ) → k < 11 → at + k < length area → get_or (set area at status) (at + k) 0 ≡ get_or (status ∷ header_in (entry_at area o p)) k 0
      here zero l m = ap (λ (i : ℕ). get_or (set area at status) i 0) (omega arith) ∙ get_or-set_same area at status 0 room
      here (suc k) l m =
          get_or-set_other area at (at + suc k) status 0 (λ q. omega arith)
          ∙ sym (ap (λ (xs : List ℕ). get_or xs k 0) header_is ∙ get_or_tab 10 (λ k. get_or area (at + 1 + k) 0) k (omega arith) ∙ ap (λ (i : ℕ). get_or area i 0) (omega arith))

  pub entry_put : (status : ℕ) (header after : List ℕ) (n : ℕ) → at < length area → n ≡ 10 → Written (set area at status) (at + 1) header n after
      → after ≡ put area o p (status ∷ header)
  entry_put status header after n room ten w =
      put_made (status ∷ header) after (w.long ∙ length-set area at status) here
      (λ i e. ⊎_elim
      (λ (l : i < at + 1). w.below i l ∙ get_or-set_other area at i status 0 (λ q. e (omega arith)))
      (λ (l : at + 1 ≤ i). w.above i (past i e l) ∙ get_or-set_other area at i status 0 (λ q. e (omega arith)))
      (lt_or_le i (at + 1)))
    where
      past : (i : ℕ) → (i / 11 ≡ entry_number o p → ⊥) → at + 1 ≤ i → at + 1 + n ≤ i
      past i e l = ⊎_elim (λ (m : i < at + 1 + n). absurd (e (omega arith))) (λ (m : at + 1 + n ≤ i). m) (lt_or_le i (at + 1 + n))

      here : (k : ℕ) → k < 11 → at + k < length area → get_or after (at + k) 0 ≡ get_or (status ∷ header) k 0
      here zero l m =
          ap (λ (i : ℕ). get_or after i 0) (omega arith) ∙ w.below at (omega arith) ∙ get_or-set_same area at status 0 room
      here (suc k) l m = let z : at + suc k ≡ at + 1 + k = omega arith in ap (λ (i : ℕ). get_or after i 0) z ∙ w.here k (omega arith)

-- ---- a part of the area that is copied to

pub written : (before : List ℕ) (at k : ℕ) (from moved : List ℕ) → moved ≡ from → length from ≡ k → at + k ≤ length before → Written before at from k (put_mid at k before moved)
written before at k from moved e len room = record {
  long = length-append front (moved ++ rest) ∙ omega (arith, length-append moved rest, long, size, left);
  here = λ j l. get_or-append_right front (moved ++ rest) at (at + j) 0 long (omega arith)
      ∙ ap (λ (i : ℕ). get_or (moved ++ rest) i 0) (let z : at + j - at ≡ j = omega arith in z)
      ∙ get_or_append_left moved rest 0 j (omega (arith, size))
      ∙ ap (λ (xs : List ℕ). get_or xs j 0) e;
  below = λ i l. get_or_append_left front (moved ++ rest) 0 i (omega (arith, long)) ∙ get_or-take at before i 0 l;
  above = λ i l. get_or-append_right front (moved ++ rest) at i 0 long (omega arith)
      ∙ get_or-append_right moved rest k (i - at) 0 size (omega arith)
      ∙ get_or-drop k (drop at before) (i - at - k) 0
      ∙ get_or-drop at before (k + (i - at - k)) 0
      ∙ ap (λ (m : ℕ). get_or before m 0) (let z : at + (k + (i - at - k)) ≡ i = omega arith in z);
}
  where
    front : List ℕ
    front = take at before

    rest : List ℕ
    rest = drop k (drop at before)

    long : length front ≡ at
    long = length-take-le at before (omega arith)

    size : length moved ≡ k
    size = ap length e ∙ len

    left : length rest ≡ length before - at - k
    left = length-drop k (drop at before) ∙ ap (λ (n : ℕ). n - k) (length-drop at before)
