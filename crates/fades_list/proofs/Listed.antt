-- A list of fades from number i on: the fade that stands there, and the rest. A fade that is over covers nothing more, and those after it have not begun.
use mathlib.Core.Path.{◌≡◌, refl, sym, ap, ap₂, ◌∙◌}
use mathlib.Core.Bool.{Bool, true, false, ◌||◌, true≢false}
use mathlib.Core.List.{List, [], ◌∷◌}
use mathlib.Core.Logic.{⊎_elim}
use Prim.Native.Nat.{ℕ, suc, ◌+◌, ◌≤◌, ◌<◌}
use native.Mathlib.Omega.{arith}
use native.Mathlib.Numerals.{add-one}
use lib.Dec.{ltb, leb, eqb}
use lib.ListN.{length, get_or, drop}
use lib.Seq.{drop-cons, drop-length}
use borrow.Author.Tests.{lt-ltb, le-ltb, lt-leb, eq-eqb, ne_eqb}
use Rattle.bits.proofs.Laws.Choice.{lt_or_le, eq_or_ne}
use Rattle.bits.specs.Basics.{both}
use Rattle.fades.specs.Fades.{covered, fades_good, list_good}
use Rattle.fades.proofs.Laws.Fades.{Front, front_good}
use Rattle.fades_list.specs.Inner.{Left}

-- no fade covers what lies before the first
before_none : (n end : ℕ) (fades : List ℕ) (s : ℕ) → fades_good n end fades ≡ true → s < end → covered fades s ≡ false
unfolding covered
before_none n end [] s e l = refl
before_none n end (first ∷ []) s e l = refl
before_none n end (first ∷ size ∷ rest) s e l =
    let f = front_good n end first size rest e in
    let a : s < first = let b = f.behind in omega arith in
    rw (lt-leb first s a, before_none n (first + size) rest s f.good (omega arith)) refl

-- a fade by itself
abbrev pub fitting : ℕ → ℕ → ℕ → ℕ → Bool
fitting n end first size = both (leb 1 size) (both (leb end first) (leb (first + size) n))

both_three : (a b c d : Bool) → both a (both b (both c d)) ≡ both (both a (both b c)) d
both_three true true c d = refl
both_three true false c d = refl
both_three false b c d = refl

module _ (fades : List ℕ) (i : ℕ) where
  abbrev pub first : ℕ
  first = get_or fades i 0

  abbrev pub size : ℕ
  size = get_or fades (i + 1) 0

  drop_two : i + 1 < length fades → drop i fades ≡ first ∷ size ∷ drop (i + 2) fades
  drop_two l =
      let e : i < length fades = omega arith in
      drop-cons fades i 0 e
      ∙ ap (λ (k : ℕ). first ∷ drop k fades) (sym (add-one i))
      ∙ ap (λ (xs : List ℕ). first ∷ xs) (drop-cons fades (i + 1) 0 l ∙ ap (λ (k : ℕ). size ∷ drop k fades) (let e : suc (i + 1) ≡ i + 2 = omega arith in e))

  drop_one : i + 1 ≡ length fades → drop i fades ≡ first ∷ []
  drop_one e =
      let l : i < length fades = omega arith in
      drop-cons fades i 0 l
      ∙ ap (λ (k : ℕ). first ∷ drop k fades) (sym (add-one i) ∙ e)
      ∙ ap (λ (xs : List ℕ). first ∷ xs) (drop-length fades)

  -- ---- the loop of question 22

  -- the fade at i, as the code reads it and finds it
  pub good_on : (n end a b : ℕ) (t : Bool) → i + 1 < length fades → a ≡ first → b ≡ size → t ≡ fitting n end a b
      → fades_good n end (drop i fades) ≡ both t (fades_good n (a + b) (drop (i + 2) fades))
  unfolding fades_good
  good_on n end a b t l ea eb et =
      ap (fades_good n end) (drop_two l)
      ∙ ap₂ (λ (x y : ℕ). fades_good n end (x ∷ y ∷ drop (i + 2) fades)) (sym ea) (sym eb)
      ∙ both_three (leb 1 b) (leb end a) (leb (a + b) n) (fades_good n (a + b) (drop (i + 2) fades))
      ∙ ap (λ (x : Bool). both x (fades_good n (a + b) (drop (i + 2) fades))) (sym et)

  pub good_last : (n end : ℕ) → i ≤ length fades → length fades ≤ i + 1 → fades_good n end (drop i fades) ≡ eqb i (length fades)
  unfolding fades_good
  good_last n end a b =
      ⊎_elim
      (λ (e : i ≡ length fades). ap (fades_good n end) (ap (λ (k : ℕ). drop k fades) e ∙ drop-length fades) ∙ sym (eq-eqb i (length fades) e))
      (λ (e : i ≡ length fades → ⊥). ap (fades_good n end) (drop_one (omega arith)) ∙ sym (ne_eqb i (length fades) e))
      (eq_or_ne i (length fades))

  -- there is no half of one
  pub whole : (n end : ℕ) → fades_good n end (drop i fades) ≡ true → i < length fades → i + 1 < length fades
  whole n end e l =
      ⊎_elim
      (λ (h : i + 1 < length fades). h)
      (λ (h : length fades ≤ i + 1).
      let no : eqb i (length fades) ≡ false = ne_eqb i (length fades) (λ z. omega arith) in
      absurd (true≢false (sym e ∙ good_last n end (omega arith) h ∙ no)))
      (lt_or_le (i + 1) (length fades))

  pub front_at : (n end : ℕ) → fades_good n end (drop i fades) ≡ true → i < length fades → Front n end first size (drop (i + 2) fades)
  front_at n end e l =
      front_good n end first size (drop (i + 2) fades) (ap (fades_good n end) (sym (drop_two (whole n end e l))) ∙ e)

-- ---- the fades that are left at symbol s

module _ (fades : List ℕ) (i s : ℕ) (left : Left fades i s) where
  pub none_left : length fades ≤ i → covered fades s ≡ false
  unfolding covered
  none_left l =
      let a = left.inside in
      let e : i ≡ length fades = omega arith in
      sym (left.same s (omega arith)) ∙ ap (λ (xs : List ℕ). covered xs s) (ap (λ (k : ℕ). drop k fades) e ∙ drop-length fades)

  -- none is over
  pub left_on : (i < length fades → s + 1 < first fades i + size fades i) → Left fades i (s + 1)
  left_on h =
      record { inside = left.inside; run = left.run; end = left.end; good = left.good; same = λ u k. left.same u (omega arith); lasts = h }

  module _ (l : i < length fades) where
    pub more : i + 1 < length fades
    more = whole fades i left.run left.end left.good l

    front : Front left.run left.end (first fades i) (size fades i) (drop (i + 2) fades)
    front = front_at fades i left.run left.end left.good l

    covers : (u : ℕ) → s ≤ u → covered fades u ≡ both (leb (first fades i) u) (ltb u (first fades i + size fades i)) || covered (drop (i + 2) fades) u
    unfolding covered
    covers u h = sym (left.same u h) ∙ ap (λ (xs : List ℕ). covered xs u) (drop_two fades i more)

    -- those after it have not begun
    pub one_left : covered fades s ≡ leb (first fades i) s
    one_left =
        let here : s < first fades i + size fades i = left.lasts l in
        covers s (omega arith)
        ∙ rw (lt-ltb s (first fades i + size fades i) here, before_none left.run (first fades i + size fades i) (drop (i + 2) fades) s front.good here) (or_false (leb (first fades i) s))
      where
        or_false : (t : Bool) → both t true || false ≡ t
        or_false true = refl
        or_false false = refl

    -- it is over
    pub left_past : first fades i + size fades i ≤ s + 1 → Left fades (i + 2) (s + 1)
    left_past h =
        let here : s < first fades i + size fades i = left.lasts l in
        let m = more in
        record {
          inside = omega arith;
          run = left.run;
          end = first fades i + size fades i;
          good = front.good;
          same = λ u k.
              let a : first fades i + size fades i ≤ u = omega arith in
              sym (covers u (omega arith) ∙ rw (le-ltb u (first fades i + size fades i) a) (and_false (leb (first fades i) u)));
          lasts = λ k. let f = front_at fades (i + 2) left.run (first fades i + size fades i) front.good k in let a = f.least in let b = f.behind in omega arith;
        }
      where
        and_false : (t : Bool) {v : Bool} → both t false || v ≡ v
        and_false true = refl
        and_false false = refl

-- at symbol 0 all are left
pub left_all : (n : ℕ) (fades : List ℕ) → list_good n fades ≡ true → Left fades 0 0
left_all n fades e =
    record {
      inside = omega arith;
      run = n;
      end = 0;
      good = e;
      same = λ u k. refl;
      lasts = λ l. let f = front_at fades 0 n 0 e l in let a = f.least in omega arith;
    }
