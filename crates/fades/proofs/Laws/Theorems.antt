-- What the counts come to: their sum, and a fade over the whole run.
use mathlib.Core.Path.{◌≡◌, refl, sym, ap, ap₂, ◌∙◌}
use mathlib.Core.Bool.{Bool, true, false, not, true≢false}
use mathlib.Core.List.{List, [], ◌∷◌}
use mathlib.Core.Logic.{⊎_elim}
use Prim.Native.Nat.{ℕ, zero, suc, ◌+◌, ◌-◌, ◌*◌, ◌/◌, ◌%◌, ◌≤◌, ◌<◌}
use native.Mathlib.Omega.{arith}
use native.Mathlib.Nat.{add-zero, div-lt_iff_lt-mul}
use lib.Arith.{digits_div}
use lib.Dec.{ltb, leb, eqb}
use lib.ListN.{get_or}
use borrow.Author.Tests.{ltb-false, leb-false, eqb-true, lt-ltb, le-ltb, le-leb, lt-leb, eq-eqb, ne_eqb, not-true}
use Rattle.bits.specs.Basics.{bool, tab, both}
use Rattle.bits.proofs.Laws.Choice.{lt_or_le, eq_or_ne}
use Rattle.bits.proofs.Laws.Table.{both_true, both_false, get_or_tab, tab_same}
use Rattle.bits.specs.Count.{weight}
use Rattle.bits.proofs.Laws.Weight.{weight_same, weight_none, weight_all, weight_append, weight_swap, weight_one}
use Rattle.channel.specs.Channel.{total, unit, layout_symbols, place, hit_by, place_at, symbol_of}
use Rattle.channel.specs.Inner.{delay}
use Rattle.channel.proofs.Laws.Places.{place_hit, hit_place, place_lt}
use Rattle.channel.proofs.Laws.Markers.{sym_mod, place_sym, sym_place, sym_lt}
use Rattle.header.specs.declared.Fields.{Fields}
use Rattle.header_sizes.specs.Quantities.{layout_of}
use Rattle.header_sizes.specs.Inner.{Valid}
use Rattle.header_sizes.proofs.Laws.Shape.{symbols_least}
use Rattle.header_sizes.proofs.Laws.Bounds.{lines_steps}
use Rattle.channel.specs.declared.Layout.{Layout}
use Rattle.fades.specs.Fades.{covered, is_marker, is_filler, source_of, carries, of_word, is_hit, hits, counts_of}

-- ---- the sum

module _ (g : Layout) (least : 1 ≤ g.symbols) (fades : List ℕ) where
  -- a symbol of a word is one of words 0 to C - 1
  pub word_lt : (s : ℕ) → carries g s ≡ true → source_of g s / g.symbols < g.words
  unfolding carries is_filler
  word_lt s e =
      let f = (both_true (not (is_marker g s)) (not (is_filler g s)) e).1 in
      (div-lt_iff_lt-mul least).1 (leb-false (total g) (source_of g s) (not-true (leb (total g) (source_of g s)) f))

  -- it is counted once, and no other symbol is
  once : (s : ℕ) → weight (λ j. bool (is_hit g fades j s)) g.words ≡ bool (both (covered fades s) (carries g s))
  unfolding of_word
  once s = cases (covered fades s) (carries g s) refl
    where
      word : ℕ
      word = source_of g s / g.symbols

      cases : (c k : Bool) → carries g s ≡ k → weight (λ j. bool (both c (both k (eqb word j)))) g.words ≡ bool (both c k)
      cases true true e = weight_one word g.words ∙ ap bool (lt-ltb word g.words (word_lt s e))
      cases true false e = weight_none (λ j. 0) g.words (λ j l. refl)
      cases false k e = weight_none (λ j. 0) g.words (λ j l. refl)

  pub hits_sum : weight (hits g fades) g.words ≡ weight (λ s. bool (both (covered fades s) (carries g s))) (layout_symbols g)
  unfolding hits
  hits_sum =
      weight_swap (λ j s. bool (is_hit g fades j s)) (layout_symbols g) g.words
      ∙ weight_same (λ s. weight (λ j. bool (is_hit g fades j s)) g.words) (λ s. bool (both (covered fades s) (carries g s))) (layout_symbols g) (λ s l. once s)

  -- the counts sum to the covered symbols that are neither marker nor filler
  pub counts_sum : weight (λ j. get_or (counts_of g fades) j 0) g.words
      ≡ weight (λ s. bool (both (covered fades s) (both (not (is_marker g s)) (not (is_filler g s))))) (layout_symbols g)
  unfolding counts_of carries
  counts_sum = weight_same (λ j. get_or (counts_of g fades) j 0) (hits g fades) g.words (λ j l. get_or_tab g.words (hits g fades) j l) ∙ hits_sum

-- ---- a fade over the whole run

-- a run in which every symbol has its place
pub record Whole (g : Layout) : Type 0 where
  pub rows_least : 1 ≤ g.rows
  pub symbols_least : 1 ≤ g.symbols
  pub places : g.lines * g.symbols ≡ total g + delay g (g.rows - 1)

-- as those of a header are
pub valid_whole : (f : Fields) → Valid f → Whole (layout_of f)
unfolding layout_of
valid_whole f v =
    let s = v.shaped in
    record {
      rows_least = s.rows_least;
      symbols_least = let l = symbols_least f s in omega arith;
      places = lines_steps f v;
    }

-- of so many words of S symbols each
word_symbols : (size words j : ℕ) → 1 ≤ size → weight (λ t. bool (eqb (t / size) j)) (words * size) ≡ bool (ltb j words) * size
unfolding weight
word_symbols size zero j least = let e : 0 * size ≡ 0 = omega arith in rw (le-ltb j 0 (omega arith), e) refl
word_symbols size (suc words) j least =
    let e : suc words * size ≡ words * size + size = omega arith in
    let here : weight (λ r. bool (eqb ((words * size + r) / size) j)) size ≡ weight (λ r. bool (eqb words j)) size =
    weight_same (λ r. bool (eqb ((words * size + r) / size) j)) (λ r. bool (eqb words j)) size (λ r l. ap (λ (q : ℕ). bool (eqb q j)) (digits_div words l)) in
    ap (weight (λ t. bool (eqb (t / size) j))) e
    ∙ weight_append (λ t. bool (eqb (t / size) j)) (words * size) size
    ∙ ap₂ (λ (a b : ℕ). a + b) (word_symbols size words j least) here
    ∙ ⊎_elim
    (λ (q : words ≡ j).
    let l : j < suc words = omega arith in
    let n : words ≤ j = omega arith in
    rw (eq-eqb words j q, le-ltb j words (omega arith), lt-ltb j (suc words) l) (omega (arith, weight_all (λ r. 1) size (λ r h. refl))))
    (λ (q : words ≡ j → ⊥).
    rw (ne_eqb words j q, weight_none (λ r. 0) size (λ r h. refl)) (add-zero (bool (ltb j words) * size) ∙ ap (λ (b : Bool). bool b * size) (same words j q)))
    (eq_or_ne words j)
  where
    same : (n j : ℕ) → (n ≡ j → ⊥) → ltb j n ≡ ltb j (suc n)
    same n j q =
        ⊎_elim
        (λ (l : j < n). lt-ltb j n l ∙ sym (lt-ltb j (suc n) (omega arith)))
        (λ (l : n ≤ j). le-ltb j n l ∙ sym (le-ltb j (suc n) (omega arith)))
        (lt_or_le j n)

module _ (g : Layout) (whole : Whole g) where
  -- where symbol t stands
  abbrev pub at : ℕ → ℕ
  at t = symbol_of g (place g t)

  at_lt : (t : ℕ) → t < total g → at t < layout_symbols g
  at_lt t l =
      let e = whole.places in
      let p : place g t < total g + delay g (g.rows - 1) = place_lt g whole.rows_least t l in
      sym_lt g whole.symbols_least (place g t) (omega arith)

  source_at : (t : ℕ) → t < total g → source_of g (at t) ≡ t
  unfolding source_of
  source_at t l =
      ap (hit_by g) (place_sym g whole.symbols_least (place g t))
      ∙ hit_place g t l

  carries_at : (t : ℕ) → t < total g → carries g (at t) ≡ true
  unfolding carries is_marker is_filler
  carries_at t l =
      let u : ℕ = unit g in
      let m : at t % u ≡ g.markers + place g t % g.symbols = sym_mod g whole.symbols_least (place g t) in
      let a : g.markers ≤ at t % u = omega arith in
      let b : source_of g (at t) < total g = rw (source_at t l) l in
      rw (le-ltb (at t % u) g.markers a, lt-leb (total g) (source_of g (at t)) b) refl

  at_source : (s : ℕ) → carries g s ≡ true → (source_of g s < total g) × (at (source_of g s) ≡ s)
  unfolding carries is_marker is_filler source_of
  at_source s e =
      let u : ℕ = unit g in
      let k = both_true (not (is_marker g s)) (not (is_filler g s)) e in
      let h : g.markers ≤ s % u = ltb-false (s % u) g.markers (not-true (ltb (s % u) g.markers) k.0) in
      let l : source_of g s < total g = leb-false (total g) (source_of g s) (not-true (leb (total g) (source_of g s)) k.1) in
      (l, ap (symbol_of g) (place_hit g (place_at g s) l) ∙ sym_place g whole.symbols_least s h)

  -- symbol t is one of word t div S
  pub word_at : (j t : ℕ) → t < total g → of_word g j (at t) ≡ eqb (t / g.symbols) j
  unfolding of_word
  word_at j t l = rw (carries_at t l) (ap (λ (u : ℕ). eqb (u / g.symbols) j) (source_at t l))

  pub only_word : (j s : ℕ) → of_word g j s ≡ true → (source_of g s < total g) × (at (source_of g s) ≡ s) × (source_of g s / g.symbols ≡ j)
  unfolding of_word
  only_word j s e =
      let k = both_true (carries g s) (eqb (source_of g s / g.symbols) j) e in
      let a = at_source s k.0 in
      (a.0, a.1, eqb-true (source_of g s / g.symbols) j k.1)

  module _ (j : ℕ) where
    -- symbol s is one of word j's if one of them stands there
    here : (s : ℕ) → bool (of_word g j s) ≡ weight (λ t. bool (both (eqb (t / g.symbols) j) (eqb (at t) s))) (total g)
    unfolding of_word
    here s = cases (carries g s) refl
      where
        source : ℕ
        source = source_of g s

        one : (b : Bool) → source < total g → bool b ≡ weight (λ t. bool (both b (eqb source t))) (total g)
        one true l = sym (weight_one source (total g) ∙ ap bool (lt-ltb source (total g) l))
        one false l = sym (weight_none (λ t. 0) (total g) (λ t h. refl))

        cases : (k : Bool) → carries g s ≡ k → bool (both k (eqb (source / g.symbols) j)) ≡ weight (λ t. bool (both (eqb (t / g.symbols) j) (eqb (at t) s))) (total g)
        cases true e =
            let a = at_source s e in
            one (eqb (source / g.symbols) j) a.0
            ∙ weight_same (λ t. bool (both (eqb (source / g.symbols) j) (eqb source t))) (λ t. bool (both (eqb (t / g.symbols) j) (eqb (at t) s))) (total g) (λ t l. ⊎_elim
            (λ (q : source ≡ t).
            let z : at t ≡ s = ap at (sym q) ∙ a.1 in
            ap₂ (λ (x y : Bool). bool (both x y)) (ap (λ (v : ℕ). eqb (v / g.symbols) j) q) (eq-eqb source t q ∙ sym (eq-eqb (at t) s z)))
            (λ (q : source ≡ t → ⊥).
            let z : at t ≡ s → ⊥ = λ w. q (sym (ap (source_of g) w) ∙ source_at t l) in
            rw (ne_eqb source t q, ne_eqb (at t) s z) (ap bool (both_false (eqb (source / g.symbols) j) ∙ sym (both_false (eqb (t / g.symbols) j)))))
            (eq_or_ne source t))
        cases false e =
            sym (weight_none (λ t. bool (both (eqb (t / g.symbols) j) (eqb (at t) s))) (total g) (λ t l.
            let z : at t ≡ s → ⊥ = λ w. true≢false (sym (carries_at t l) ∙ ap (carries g) w ∙ e) in
            rw (ne_eqb (at t) s z) (ap bool (both_false (eqb (t / g.symbols) j)))))

    -- each word has S hits
    pub all_hit : j < g.words → hits g (0 ∷ layout_symbols g ∷ []) j ≡ g.symbols
    unfolding hits covered
    all_hit l =
        weight_same (λ s. bool (is_hit g (0 ∷ layout_symbols g ∷ []) j s)) (λ s. weight (λ t. bool (both (eqb (t / g.symbols) j) (eqb (at t) s))) (total g)) (layout_symbols g)
        (λ s k. rw (le-leb 0 s (omega arith), lt-ltb s (0 + layout_symbols g) (omega arith)) (here s))
        ∙ weight_swap (λ s t. bool (both (eqb (t / g.symbols) j) (eqb (at t) s))) (total g) (layout_symbols g)
        ∙ weight_same (λ t. weight (λ s. bool (both (eqb (t / g.symbols) j) (eqb (at t) s))) (layout_symbols g)) (λ t. bool (eqb (t / g.symbols) j)) (total g)
        (λ t k. one (eqb (t / g.symbols) j) (at t) (at_lt t k))
        ∙ word_symbols g.symbols g.words j whole.symbols_least
        ∙ rw (lt-ltb j g.words l) (omega arith)
      where
        one : (b : Bool) (a : ℕ) → a < layout_symbols g → weight (λ s. bool (both b (eqb a s))) (layout_symbols g) ≡ bool b
        one true a h = weight_one a (layout_symbols g) ∙ ap bool (lt-ltb a (layout_symbols g) h)
        one false a h = weight_none (λ s. 0) (layout_symbols g) (λ s k. refl)

-- ---- no fade

pub none_hit : (g : Layout) → counts_of g [] ≡ tab g.words (λ j. 0)
unfolding counts_of hits covered
none_hit g = tab_same g.words (hits g []) (λ j. 0) (λ j l. weight_none (λ s. bool (is_hit g [] j s)) (layout_symbols g) (λ s k. refl))
