-- Lists of fades that keep the rules, and what is known once a list is accepted.
use mathlib.Core.Path.{◌≡◌, refl}
use mathlib.Core.Bool.{Bool, true, false, false≢true}
use mathlib.Core.List.{List, [], ◌∷◌}
use mathlib.Core.Logic.{◌⊎◌, ⊎_elim}
use Prim.Native.Nat.{ℕ, zero, suc, ◌+◌, ◌*◌, ◌%◌, ◌≤◌, ◌<◌}
use native.Mathlib.Omega.{arith}
use lib.Dec.{ltb, leb, eqb}
use lib.ListN.{length}
use borrow.Author.Tests.{leb-true, eqb-true, lt-ltb, le-ltb, le-leb, lt-leb}
use Rattle.bits.specs.Basics.{both}
use Rattle.bits.proofs.Laws.Table.{both_true, either_right}
use Rattle.answers.specs.Answer.{Done, ask}
use Rattle.answers.proofs.Laws.Answer.{then_done, ask_done, fits_ask, fits_then}
use Rattle.answers.specs.Inner.{Fits}
use Rattle.header.specs.Header.{fields_of}
use Rattle.header.specs.declared.Fields.{Fields}
use Rattle.header_sizes.specs.Quantities.{block_count, symbol_count, layout_of}
use Rattle.header_sizes.specs.Inner.{Valid}
use Rattle.header_sizes.proofs.Laws.Shape as shape
use Rattle.header_sizes.proofs.Laws.Bounds as bounds
use Rattle.header_questions.specs.Questions.{header_says}
use Rattle.header_questions.proofs.Laws.Good.{header_good, header_fits}
use Rattle.fades.specs.Fades.{covered, fades_good, list_good, fades_say, first_of, end_of}
use Rattle.fades.specs.Inner.{Small}

-- ---- the first fade, and the rest

pub record Front (n end first size : ℕ) (rest : List ℕ) : Type 0 where
  pub least : 1 ≤ size
  pub behind : end ≤ first
  pub inside : first + size ≤ n
  pub good : fades_good n (first + size) rest ≡ true

pub front_good : (n end first size : ℕ) (rest : List ℕ) → fades_good n end (first ∷ size ∷ rest) ≡ true → Front n end first size rest
unfolding fades_good
front_good n end first size rest e =
    let a = both_true (leb 1 size) _ e in
    let b = both_true (leb end first) _ a.1 in
    let c = both_true (leb (first + size) n) (fades_good n (first + size) rest) b.1 in
    record { least = leb-true 1 size a.0; behind = leb-true end first b.0; inside = leb-true (first + size) n c.0; good = c.1 }

pub good_front : (n end first size : ℕ) (rest : List ℕ) → Front n end first size rest → fades_good n end (first ∷ size ∷ rest) ≡ true
unfolding fades_good
good_front n end first size rest f =
    rw (le-leb 1 size f.least, le-leb end first f.behind, le-leb (first + size) n f.inside) f.good

-- the rules: pairs, each of at least one symbol and inside the run of n symbols, ascending and not overlapping
pub record Rules (n : ℕ) (fades : List ℕ) : Type 0 where
  pub pairs : length fades % 2 ≡ 0
  pub least : (i : ℕ) → 2 * i < length fades → first_of fades i < end_of fades i
  pub inside : (i : ℕ) → 2 * i < length fades → end_of fades i ≤ n
  pub ascending : (i : ℕ) → 2 * i + 2 < length fades → end_of fades i ≤ first_of fades (i + 1)

-- a list of two more
module _ (first size : ℕ) (rest : List ℕ) where
  next_first : (i : ℕ) → first_of (first ∷ size ∷ rest) (i + 1) ≡ first_of rest i
  next_first i = let e : 2 * (i + 1) ≡ suc (suc (2 * i)) = omega arith in rw e refl

  next_end : (i : ℕ) → end_of (first ∷ size ∷ rest) (i + 1) ≡ end_of rest i
  next_end i =
      let e : 2 * (i + 1) ≡ suc (suc (2 * i)) = omega arith in
      let f : suc (suc (2 * i)) + 1 ≡ suc (suc (2 * i + 1)) = omega arith in
      rw (e, f) refl

-- after `end`
record Behind (n end : ℕ) (fades : List ℕ) : Type 0 where
  pub rules : Rules n fades
  pub begins : 0 < length fades → end ≤ first_of fades 0

-- number 0, or one more than another
by_index : (P : ℕ → Type 0) → P 0 → ((i : ℕ) → P (i + 1)) → (i : ℕ) → P i
by_index P a b zero = a
by_index P a b (suc i) = let e : suc i ≡ i + 1 = omega arith in rw e (b i)

kept : (n end : ℕ) (fades : List ℕ) → fades_good n end fades ≡ true → Behind n end fades
unfolding fades_good
kept n end [] e = record {
  rules = record { pairs = refl; least = λ i l. absurd (omega arith); inside = λ i l. absurd (omega arith); ascending = λ i l. absurd (omega arith) };
  begins = λ l. absurd (omega arith);
}
kept n end (first ∷ []) e = absurd (false≢true e)
kept n end (first ∷ size ∷ rest) e = more (front_good n end first size rest e) (kept n (first + size) rest (front_good n end first size rest e).good)
  where
    more : Front n end first size rest → Behind n (first + size) rest → Behind n end (first ∷ size ∷ rest)
    more f b = record {
      rules = record {
        pairs = let p = b.rules.pairs in omega arith;
        least = by_index (λ (i : ℕ). 2 * i < length (first ∷ size ∷ rest) → first_of (first ∷ size ∷ rest) i < end_of (first ∷ size ∷ rest) i)
            (λ l. let k = f.least in omega arith)
            (λ i l. rw (next_end first size rest i, next_first first size rest i) (b.rules.least i (omega arith)));
        inside = by_index (λ (i : ℕ). 2 * i < length (first ∷ size ∷ rest) → end_of (first ∷ size ∷ rest) i ≤ n)
            (λ l. f.inside)
            (λ i l. rw (next_end first size rest i) (b.rules.inside i (omega arith)));
        ascending = by_index (λ (i : ℕ). 2 * i + 2 < length (first ∷ size ∷ rest) → end_of (first ∷ size ∷ rest) i ≤ first_of (first ∷ size ∷ rest) (i + 1))
            (λ l. b.begins (omega arith))
            (λ i l. rw (next_end first size rest i, next_first first size rest (i + 1)) (b.rules.ascending i (omega arith)));
      };
      begins = λ l. f.behind;
    }

keeps : (n end : ℕ) (fades : List ℕ) → Behind n end fades → fades_good n end fades ≡ true
unfolding fades_good
keeps n end [] b = refl
keeps n end (first ∷ []) b = absurd (let p = b.rules.pairs in omega arith)
keeps n end (first ∷ size ∷ rest) b =
    good_front n end first size rest record {
      least = let l = b.rules.least 0 (omega arith) in omega arith;
      behind = b.begins (omega arith);
      inside = b.rules.inside 0 (omega arith);
      good = keeps n (first + size) rest record {
        rules = record {
          pairs = let p = b.rules.pairs in omega arith;
          least = λ i l. rw (next_end first size rest i, next_first first size rest i) at (b.rules.least (i + 1) (omega arith));
          inside = λ i l. rw (next_end first size rest i) at (b.rules.inside (i + 1) (omega arith));
          ascending = λ i l. rw (next_end first size rest i, next_first first size rest (i + 1)) at (b.rules.ascending (i + 1) (omega arith));
        };
        begins = λ l. b.rules.ascending 0 (omega arith);
      };
    }

-- question 22 asks for these rules
pub good_rules : (n : ℕ) (fades : List ℕ) → list_good n fades ≡ true → Rules n fades
good_rules n fades e = (kept n 0 fades e).rules

pub rules_good : (n : ℕ) (fades : List ℕ) → Rules n fades → list_good n fades ≡ true
rules_good n fades r = keeps n 0 fades record { rules = r; begins = λ l. omega arith }

-- ---- covered symbols

pub covered_in : (fades : List ℕ) (s i : ℕ) → 2 * i + 1 < length fades → first_of fades i ≤ s → s < end_of fades i → covered fades s ≡ true
unfolding covered
covered_in [] s i l a b = absurd (omega arith)
covered_in (first ∷ []) s i l a b = absurd (omega arith)
covered_in (first ∷ size ∷ rest) s zero l a b = rw (le-leb first s a, lt-ltb s (first + size) b) refl
covered_in (first ∷ size ∷ rest) s (suc i) l a b =
    let e : suc i ≡ i + 1 = omega arith in
    let a' : first_of rest i ≤ s = rw (e, next_first first size rest i) at a in
    let b' : s < end_of rest i = rw (e, next_end first size rest i) at b in
    either_right (both (leb first s) (ltb s (first + size))) (covered rest s) (covered_in rest s i (omega arith) a' b')

pub covered_out : (fades : List ℕ) (s : ℕ) → ((i : ℕ) → 2 * i + 1 < length fades → (s < first_of fades i) ⊎ (end_of fades i ≤ s)) → covered fades s ≡ false
unfolding covered
covered_out [] s h = refl
covered_out (first ∷ []) s h = refl
covered_out (first ∷ size ∷ rest) s h =
    let later : covered rest s ≡ false = covered_out rest s (λ i l. rw (next_end first size rest i, next_first first size rest i) at (h (i + 1) (omega arith))) in
    ⊎_elim
    (λ (l : s < first). rw (lt-leb first s l) later)
    (λ (l : first + size ≤ s). let a : first ≤ s = omega arith in rw (le-leb first s a, le-ltb s (first + size) l) later)
    (h 0 (omega arith))

-- ---- the run of a header

pub valid_small : (f : Fields) → Valid f → Small (layout_of f)
unfolding layout_of symbol_count
valid_small f v =
    let s = v.shaped in
    record {
      rows_least = s.rows_least;
      rows_most = s.rows_most;
      step_most = s.step_most;
      symbols_least = let l = shape.symbols_least f s in omega arith;
      symbols_most = shape.symbols_most f s;
      markers_most = v.markers_most;
      total_most = let m = bounds.coded_most f v in omega arith;
      count_most = bounds.symbol_most f v;
    }

-- ---- the answers

-- what acceptance says
pub record Accepted (header fades : List ℕ) (n : ℕ) : Type 0 where
  pub header_is : header_says header ≡ Done
  pub valid : Valid (fields_of header)
  pub words_are : n ≡ block_count (fields_of header)
  pub list : list_good (symbol_count (fields_of header)) fades ≡ true

pub accepted : (header fades : List ℕ) (n : ℕ) → fades_say header fades n ≡ Done → Accepted header fades n
unfolding fades_say
accepted header fades n e =
    let f : Fields = fields_of header in
    let r = then_done (header_says header) _ e in
    let t = then_done (ask (eqb n (block_count f)) 8 0) (ask (list_good (symbol_count f) fades) 22 0) r.1 in
    record {
      header_is = r.0;
      valid = (header_good header r.0).valid;
      words_are = eqb-true n (block_count f) (ask_done (eqb n (block_count f)) 8 0 t.0);
      list = ask_done (list_good (symbol_count f) fades) 22 0 t.1;
    }

-- they fit the number that C gets
pub fades_fit : (header fades : List ℕ) (n : ℕ) → Fits (fades_say header fades n)
unfolding fades_say
fades_fit header fades n =
    let words : Bool = eqb n (block_count (fields_of header)) in
    let list : Bool = list_good (symbol_count (fields_of header)) fades in
    fits_then (header_says header) _ (header_fits header)
    (λ e. fits_then (ask words 8 0) (ask list 22 0) (fits_ask words 8 0 (omega arith) (omega arith) (λ z. omega arith))
    (λ g. fits_ask list 22 0 (omega arith) (omega arith) (λ z. omega arith)))
