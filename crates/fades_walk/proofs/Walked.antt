-- From a symbol to the next: its line goes on, or the next one begins. What the walk counts is the definition with as many symbols as were passed.
use mathlib.Core.Path.{◌≡◌, refl, sym, ap, ap₂, ◌∙◌}
use mathlib.Core.Bool.{Bool, true, false}
use mathlib.Core.List.{List}
use mathlib.Core.Logic.{⊎_elim}
use Prim.Native.Nat.{ℕ, ◌+◌, ◌-◌, ◌*◌, ◌/◌, ◌%◌, ◌^◌, ◌≤◌, ◌<◌}
use native.Mathlib.Omega.{arith}
use native.Mathlib.Nat.{le_refl, add-zero, zero-mod, zero-div, mul-le-mul, mod-lt, div-add-mod', mul-div_cancel}
use native.Mathlib.Numerals.{add-one}
use lib.Arith.{digits_div, digits_mod}
use lib.Dec.{eqb}
use lib.ListN.{length, get_or, set, length-set, get_or-eq_default}
use lib.Seq.{get_or-set_same, get_or-set_other}
use borrow.Author.Tests.{lt-ltb, le-ltb, le-leb, lt-leb, eq-eqb, ne_eqb}
use Rattle.bits.specs.Basics.{pick, bool, both}
use Rattle.bits.proofs.Laws.Choice.{bool_lt, lt_or_le, eq_or_ne}
use Rattle.bits.proofs.Laws.Table.{tab_made}
use Rattle.bits.specs.Count.{weight}
use Rattle.bits.proofs.Laws.Weight.{weight_most}
use Rattle.channel.specs.Channel.{total, unit, layout_symbols, place_at}
use Rattle.channel.proofs.Laws.Places.{hit_le, remainder_on}
use Rattle.channel.specs.declared.Layout.{Layout}
use Rattle.fades_walk.specs.declared.Spot.{Spot}
use Rattle.fades.specs.Fades.{covered, is_marker, is_filler, source_of, carries, of_word, is_hit, hits, counts_of}
use Rattle.fades.specs.Inner.{Small}
use Rattle.fades_walk.specs.Inner.{Stands, word_at, Open, Plus, Added}

-- ---- the next symbol

module _ (g : Layout) (s : ℕ) (least : 1 ≤ g.symbols) where
  -- a place is no further on than its symbol
  pub place_le : place_at g s ≤ s
  unfolding place_at
  place_le =
      let d = div-add-mod' s (unit g) in
      let l : g.symbols ≤ unit g = omega arith in
      omega (arith, mul-le-mul (le_refl (s / unit g)) l)

  pub column_lt : s % unit g < unit g
  column_lt = mod-lt s (omega arith)

  -- in the same line
  module _ (h : s % unit g + 1 < unit g) where
    at : s + 1 ≡ s / unit g * unit g + (s % unit g + 1)
    at = let d = div-add-mod' s (unit g) in omega arith

    pub column_on : (s + 1) % unit g ≡ s % unit g + 1
    column_on = ap (λ (x : ℕ). x % unit g) at ∙ digits_mod (s / unit g) h

    place_on : place_at g (s + 1) ≡ s / unit g * g.symbols + (s % unit g + 1 - g.markers)
    unfolding place_at
    place_on = ap₂ (λ (a b : ℕ). a * g.symbols + (b - g.markers)) (ap (λ (x : ℕ). x / unit g) at ∙ digits_div (s / unit g) h) column_on

    -- after a marker symbol, and after another
    pub place_stays : s % unit g + 1 ≤ g.markers → place_at g (s + 1) ≡ place_at g s
    unfolding place_at
    place_stays l = place_on ∙ omega arith

    pub place_more : g.markers ≤ s % unit g → place_at g (s + 1) ≡ place_at g s + 1
    unfolding place_at
    place_more l = place_on ∙ omega arith

  -- after the last of a line
  module _ (h : s % unit g + 1 ≡ unit g) where
    turned : s + 1 ≡ (s / unit g + 1) * unit g + 0
    turned = let d = div-add-mod' s (unit g) in omega arith

    some : 0 < unit g
    some = omega arith

    pub column_first : (s + 1) % unit g ≡ 0
    column_first = ap (λ (x : ℕ). x % unit g) turned ∙ digits_mod (s / unit g + 1) some

    pub place_first : place_at g (s + 1) ≡ place_at g s + 1
    unfolding place_at
    place_first =
        let e : (s / unit g + 1) * g.symbols ≡ s / unit g * g.symbols + g.symbols = omega arith in
        ap₂ (λ (a b : ℕ). a * g.symbols + (b - g.markers)) (ap (λ (x : ℕ). x / unit g) turned ∙ digits_div (s / unit g + 1) some) column_first
        ∙ omega arith

-- symbol 0
pub stands_first : (g : Layout) → Stands g (record { symbol = 0; column = 0; place = 0; residue = 0 })
unfolding place_at
stands_first g =
    let u : ℕ = unit g in
    record {
      column_is = sym (zero-mod u);
      place_is = let d = zero-div u in let m = zero-mod u in sym (rw (d, m) (omega arith));
      residue_is = sym (zero-mod g.rows);
    }

module _ (g : Layout) (small : Small g) (a : Spot) (stands : Stands g a) where
  pub column_small : a.column < unit g
  column_small = let e = stands.column_is in let l = column_lt g a.symbol small.symbols_least in omega arith

  pub place_small : a.place ≤ a.symbol
  place_small = let e = stands.place_is in let l = place_le g a.symbol small.symbols_least in omega arith

  pub residue_small : a.residue < g.rows
  residue_small = let e = stands.residue_is in let l = mod-lt a.place small.rows_least in omega arith

  pub stands_marker : a.column + 1 ≤ g.markers
      → Stands g (record { symbol = a.symbol + 1; column = a.column + 1; place = a.place; residue = a.residue })
  stands_marker l =
      let e = stands.column_is in
      let least = small.symbols_least in
      let h : a.symbol % unit g + 1 < unit g = omega arith in
      record {
        column_is = ap (λ (c : ℕ). c + 1) e ∙ sym (column_on g a.symbol least h);
        place_is = stands.place_is ∙ sym (place_stays g a.symbol least h (omega arith));
        residue_is = stands.residue_is;
      }

  module _ (behind : g.markers < a.column + 1) (r : ℕ) (er : r ≡ (a.residue + 1) % g.rows) where
    pub stands_place : a.column + 1 < unit g
        → Stands g (record { symbol = a.symbol + 1; column = a.column + 1; place = a.place + 1; residue = r })
    stands_place l =
        let e = stands.column_is in
        let least = small.symbols_least in
        let h : a.symbol % unit g + 1 < unit g = omega arith in
        record {
          column_is = ap (λ (c : ℕ). c + 1) e ∙ sym (column_on g a.symbol least h);
          place_is = ap (λ (x : ℕ). x + 1) stands.place_is ∙ sym (place_more g a.symbol least h (omega arith));
          residue_is = remainder_on a.place g.rows a.residue r stands.residue_is er;
        }

    pub stands_line : unit g ≤ a.column + 1
        → Stands g (record { symbol = a.symbol + 1; column = 0; place = a.place + 1; residue = r })
    stands_line l =
        let e = stands.column_is in
        let least = small.symbols_least in
        let m = column_small in
        let h : a.symbol % unit g + 1 ≡ unit g = omega arith in
        record {
          column_is = sym (column_first g a.symbol least h);
          place_is = ap (λ (x : ℕ). x + 1) stands.place_is ∙ sym (place_first g a.symbol least h);
          residue_is = remainder_on a.place g.rows a.residue r stands.residue_is er;
        }

-- ---- the word of a symbol

module _ (g : Layout) (least : 1 ≤ g.symbols) (s : ℕ) where
  pub marker_word : s % unit g < g.markers → g.words ≡ word_at g s
  unfolding word_at carries is_marker
  marker_word h = sym (rw (lt-ltb (s % unit g) g.markers h) refl)

  source_le : source_of g s ≤ total g
  unfolding source_of
  source_le = hit_le g (place_at g s)

  -- a filler comes from C-as-S, and that would be one of word C
  pub source_word : g.markers ≤ s % unit g → source_of g s / g.symbols ≡ word_at g s
  unfolding word_at carries is_marker is_filler
  source_word h =
      ⊎_elim
      (λ (l : source_of g s < total g). sym (rw (le-ltb (s % unit g) g.markers h, lt-leb (total g) (source_of g s) l) refl))
      (λ (l : total g ≤ source_of g s).
      let e : source_of g s ≡ total g = let m = source_le in omega arith in
      sym (rw (le-ltb (s % unit g) g.markers h, le-leb (total g) (source_of g s) l) (sym (ap (λ (t : ℕ). t / g.symbols) e ∙ mul-div_cancel g.words least))))
      (lt_or_le (source_of g s) (total g))

  -- and no word has number C
  pub word_is : (j : ℕ) → j < g.words → eqb (word_at g s) j ≡ of_word g j s
  unfolding word_at of_word
  word_is j l = cases (carries g s)
    where
      cases : (t : Bool) → eqb (pick t (source_of g s / g.symbols) g.words) j ≡ both t (eqb (source_of g s / g.symbols) j)
      cases true = refl
      cases false = ne_eqb g.words j (λ e. omega arith)

-- ---- the counts

-- one number more by 1
pub plus_here : (j : ℕ) (counts : List ℕ) → j < length counts → Plus j counts (set counts j (get_or counts j 0 + 1))
plus_here j counts l =
    record {
      long = length-set counts j (get_or counts j 0 + 1);
      each = λ k h. ⊎_elim
          (λ (e : j ≡ k).
          ap (getD' (set counts j (get_or counts j 0 + 1))) (sym e)
          ∙ get_or-set_same counts j (get_or counts j 0 + 1) 0 l
          ∙ ap₂ (λ (a b : ℕ). a + b) (ap (getD' counts) e) (sym (ap bool (eq-eqb j k e))))
          (λ (e : j ≡ k → ⊥).
          get_or-set_other counts j k (get_or counts j 0 + 1) 0 (λ z. e (sym z))
          ∙ sym (add-zero (get_or counts k 0))
          ∙ ap (λ (b : ℕ). get_or counts k 0 + b) (sym (ap bool (ne_eqb j k e))))
          (eq_or_ne j k);
    }
  where
    getD' : List ℕ → ℕ → ℕ
    getD' xs i = get_or xs i 0

pub plus_none : (j : ℕ) (counts : List ℕ) → length counts ≤ j → Plus j counts counts
plus_none j counts l =
    record { long = refl; each = λ k h. sym (add-zero (get_or counts k 0)) ∙ ap (λ (b : ℕ). get_or counts k 0 + b) (sym (ap bool (ne_eqb j k (λ z. omega arith)))) }

-- symbol s is covered, or not
module _ (g : Layout) (least : 1 ≤ g.symbols) (fades : List ℕ) (s : ℕ) (before after : List ℕ) (long : length before ≡ g.words) where
  pub added_one : covered fades s ≡ true → Plus (word_at g s) before after → Added g fades s before after
  added_one e p =
      record {
        long = p.long;
        each = λ j l. p.each j (omega arith)
            ∙ ap (λ (b : Bool). get_or before j 0 + bool b) (word_is g least s j l ∙ sym (ap (λ (t : Bool). both t (of_word g j s)) e));
      }

  pub added_none : covered fades s ≡ false → after ≡ before → Added g fades s before after
  added_none e same =
      record {
        long = ap length same;
        each = λ j l. ap (λ (xs : List ℕ). get_or xs j 0) same
            ∙ sym (add-zero (get_or before j 0))
            ∙ ap (λ (b : Bool). get_or before j 0 + bool b) (sym (ap (λ (t : Bool). both t (of_word g j s)) e));
      }

-- what stands in the counts after s symbols
pub record Counted (g : Layout) (fades : List ℕ) (s : ℕ) (counts : List ℕ) : Type 0 where
  pub long : length counts ≡ g.words
  pub each : (j : ℕ) → j < g.words → get_or counts j 0 ≡ weight (λ u. bool (is_hit g fades j u)) s

module _ (g : Layout) (fades : List ℕ) where
  pub counted_none : (counts : List ℕ) → length counts ≡ g.words → ((j : ℕ) → j < g.words → get_or counts j 0 ≡ 0) → Counted g fades 0 counts
  unfolding weight
  counted_none counts long zeros = record { long = long; each = zeros }

  pub counted_more : (s : ℕ) (before after : List ℕ) → Counted g fades s before → Added g fades s before after → Counted g fades (s + 1) after
  unfolding weight
  counted_more s before after c a =
      record {
        long = a.long ∙ c.long;
        each = λ j l. a.each j l
            ∙ ap (λ (v : ℕ). v + bool (is_hit g fades j s)) (c.each j l)
            ∙ ap (weight (λ u. bool (is_hit g fades j u))) (sym (add-one s));
      }

  -- no count is above s
  pub counted_room : (s : ℕ) (counts : List ℕ) → s < 2 ^ 31 → Counted g fades s counts → Open g counts
  counted_room s counts few c =
      record {
        long = c.long;
        room = λ j. ⊎_elim
            (λ (l : j < g.words).
            let m : weight (λ u. bool (is_hit g fades j u)) s ≤ s = weight_most (λ u. bool (is_hit g fades j u)) (λ u. bool_lt (is_hit g fades j u)) s in
            rw (c.each j l) (omega arith))
            (λ (l : g.words ≤ j).
            let e = c.long in
            let past : length counts ≤ j = omega arith in
            rw (get_or-eq_default counts 0 past) (omega arith))
            (lt_or_le j g.words);
      }

  pub counted_all : (s : ℕ) (counts : List ℕ) → s ≡ layout_symbols g → Counted g fades s counts → counts ≡ counts_of g fades
  unfolding counts_of hits
  counted_all s counts e c =
      tab_made g.words (hits g fades) counts c.long (λ j l. c.each j l ∙ ap (weight (λ u. bool (is_hit g fades j u))) e)
