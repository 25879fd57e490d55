-- A line's symbols, residue by residue: places of one residue have one delay, so that their symbols are as far apart as the places.
use mathlib.Core.Path.{◌≡◌, refl, sym, ap, ◌∙◌}
use mathlib.Core.Bool.{Bool}
use mathlib.Core.List.{List}
use mathlib.Core.Logic.{⊎_elim}
use Prim.Native.Nat.{ℕ, ◌+◌, ◌-◌, ◌*◌, ◌/◌, ◌%◌, ◌^◌, ◌≤◌, ◌<◌, min, max}
use native.Mathlib.Omega.{arith}
use native.Mathlib.Nat.{le_refl, mul-le-mul, mul_assoc, mod-lt, mod-eq_of_lt, add-mul-mod_self_right}
use lib.Dec.{ltb}
use lib.ListN.{length, get_or}
use borrow.Author.Tests.{lt-ltb, le-ltb}
use Rattle.bits.specs.Basics.{pick}
use Rattle.bits.specs.Pack.{piece, cut}
use Rattle.bits.proofs.Laws.Choice.{lt_or_le, eq_or_ne}
use Rattle.channel.specs.Channel.{total, unit, layout_symbols}
use Rattle.channel.specs.Inner.{delay}
use Rattle.channel.proofs.Laws.Markers.{line_in, line_place}
use Rattle.channel.proofs.Laws.Places.{placed_back, same_apart}
use Rattle.channel.proofs.Laws.Symbols.{data_flat}
use Rattle.plan.specs.declared.Plan.{Plan}
use Rattle.plan.specs.Inner.{Fine}
use Rattle.sizes.specs.Sizes.{word_bytes}
use Rattle.slots.proofs.Laws.Bounds.{bounds}
use Rattle.slots.proofs.Laws.Slots.{placed_below}
use Rattle.slots.specs.Writing.{data_symbol, placed_symbol, symbol_at}
use Rattle.slots_gather.specs.Inner.{symbol_in, Column, Places}
use Rattle.slots_gather.proofs.Laws.Columns.{apart}
use Rattle.slots_units.specs.Inner.{Below, Row, Symbols}
use Rattle.slots_rows.specs.Inner.{row_bytes, RowTo}

-- ---- what is at a place, by the delay of its residue

module _ (p : Plan) (word : ℕ → List ℕ) (y d : ℕ) (late : delay p.layout (y % p.layout.rows) ≡ d) where
  by_delay : placed_symbol p word y ≡ pick (ltb y d) 0 (pick (ltb (y - d) (total p.layout)) (data_symbol p word (y - d)) 0)
  unfolding cut
  by_delay =
      let f : ℕ → ℕ = data_symbol p word in
      placed_back p.layout f y ∙ ap (λ (e : ℕ). pick (ltb y e) 0 (pick (ltb (y - e) (total p.layout)) (f (y - e)) 0)) late

  pub not_yet : y < d → placed_symbol p word y ≡ 0
  not_yet h = by_delay ∙ rw (lt-ltb y d h) refl

  pub no_more : d + total p.layout ≤ y → placed_symbol p word y ≡ 0
  no_more h =
      let a : d ≤ y = omega arith in
      let b : total p.layout ≤ y - d = omega arith in
      by_delay ∙ rw (le-ltb y d a, le-ltb (y - d) (total p.layout) b) refl

  pub hit : d ≤ y → y < d + total p.layout → placed_symbol p word y ≡ data_symbol p word (y - d)
  hit a h =
      let b : y - d < total p.layout = omega arith in
      by_delay ∙ rw (le-ltb y d a, lt-ltb (y - d) (total p.layout) b) refl

-- ---- one residue more

-- the first place of residue r that can be hit
pub record First (rows d start r x : ℕ) : Type 0 where
  pub residue : x % rows ≡ r
  pub here : start ≤ x
  pub late : d ≤ x
  pub early : (y : ℕ) → y % rows ≡ r → start ≤ y → y < x → y < d

pub first_hit : (rows step start r first x : ℕ) → r < rows → first % rows ≡ r → start ≤ first → first < start + rows → x ≡ max first (r * (step * rows) + r)
    → First rows (r * (step * rows)) start r x
first_hit rows step start r first x small res from near e =
    let d : ℕ = r * (step * rows) in
    let turn : d + r ≡ r + r * step * rows = (let c : d + r ≡ r + d = omega arith in c) ∙ ap (λ (k : ℕ). r + k) (sym (mul_assoc r step rows)) in
    let far : (d + r) % rows ≡ r = ap (λ (k : ℕ). k % rows) turn ∙ add-mul-mod_self_right r (r * step) rows ∙ mod-eq_of_lt small in
    record {
      residue = ⊎_elim
          (λ (l : first < d + r). let q : x ≡ d + r = omega arith in ap (λ (k : ℕ). k % rows) q ∙ far)
          (λ (l : d + r ≤ first). let q : x ≡ first = omega arith in ap (λ (k : ℕ). k % rows) q ∙ res)
          (lt_or_le first (d + r));
      here = omega arith;
      late = omega arith;
      early = λ y same a b.
          let after : first ≤ y = ⊎_elim (λ (c : y < first). let f : y + rows ≤ first = same_apart rows y first (same ∙ sym res) c in absurd (omega arith)) (λ (c : first ≤ y). c) (lt_or_le y first) in
          let wait : y < d + r = omega arith in
          let f : y + rows ≤ d + r = same_apart rows y (d + r) (same ∙ sym far) wait in
          omega arith;
    }

module _ (p : Plan) (fine : Fine p) (words : List ℕ) (line r : ℕ) (small : r < p.layout.rows) where
  pub row_more : (x end count : ℕ) (before after : List ℕ) → First p.layout.rows (delay p.layout r) (line * p.layout.symbols) r x
      → end ≡ min (line * p.layout.symbols + p.layout.symbols) (delay p.layout r + total p.layout) → Places x end p.layout.rows count
      → Column before (x - line * p.layout.symbols) p.layout.rows count (λ j. symbol_in p.bits words (x - delay p.layout r + j * p.layout.rows)) after
      → RowTo p (piece word_bytes words) line r before → RowTo p (piece word_bytes words) line (r + 1) after
  row_more x end count before after f last places column to =
      let start : ℕ = line * p.layout.symbols in
      let n : ℕ = p.layout.rows in
      let d : ℕ = delay p.layout r in
      let word : ℕ → List ℕ = piece word_bytes words in
      let from = f.here in
      let late = f.late in
      record {
        long = column.long ∙ to.long;
        rest = λ k l. column.others k (λ j h e. let b = places.before j h in omega arith) ∙ to.rest k l;
        held = λ k l.
            let y : ℕ = start + k in
            let v : ℕ = y % n in
            ⊎_elim
            (λ (same : v ≡ r).
            let wait : delay p.layout v ≡ d = ap (delay p.layout) same in
            let le : r ≤ v = omega arith in
            let lt : v < r + 1 = omega arith in
            let was : get_or before k 0 ≡ 0 = to.held k l ∙ rw (le-ltb v r le) refl in
            let goal : pick (ltb v (r + 1)) (placed_symbol p word y) 0 ≡ placed_symbol p word y = rw (lt-ltb v (r + 1) lt) refl in
            ⊎_elim
            (λ (a : y < x).
            column.others k (λ j h e. omega arith) ∙ was
            ∙ sym (goal ∙ not_yet p word y d wait (f.early y same (omega arith) a)))
            (λ (a : x ≤ y). ⊎_elim
            (λ (b : y < end).
            let j : ℕ = y / n - x / n in
            let on : y ≡ x + j * n = apart n x y fine.rows_least (f.residue ∙ sym same) a in
            let few : j < count = places.all j (omega arith) in
            let at : k ≡ x - start + j * n = omega arith in
            let less : x - d + j * n ≡ y - d = omega arith in
            ap (λ (i : ℕ). get_or after i 0) at ∙ column.here j few ∙ ap (symbol_in p.bits words) less
            ∙ sym (goal ∙ hit p word y d wait (omega arith) (omega arith) ∙ data_flat p.bits p.layout fine.symbols_are words (y - d)))
            (λ (b : end ≤ y).
            column.others k (λ j h e. let c = places.before j h in omega arith) ∙ was
            ∙ sym (goal ∙ no_more p word y d wait (omega arith)))
            (lt_or_le y end))
            (lt_or_le y x))
            (λ (other : v ≡ r → ⊥).
            column.others k (λ j h e.
            let on : y ≡ x + j * n = omega arith in
            other (ap (λ (i : ℕ). i % n) on ∙ add-mul-mod_self_right x j n ∙ f.residue))
            ∙ to.held k l
            ∙ ap (λ (t : Bool). pick t (placed_symbol p word y) 0) (⊎_elim
            (λ (a : v < r). let b : v < r + 1 = omega arith in lt-ltb v r a ∙ sym (lt-ltb v (r + 1) b))
            (λ (a : r ≤ v). let b : r + 1 ≤ v = omega arith in le-ltb v r a ∙ sym (le-ltb v (r + 1) b))
            (lt_or_le v r)))
            (eq_or_ne v r);
      }

-- ---- the residues that have no place in the line

module _ (p : Plan) (fine : Fine p) (word : ℕ → List ℕ) (line : ℕ) where
  -- a row of zeros, where those before the first residue have had all their symbols
  pub row_begun : (from : ℕ) (row : List ℕ) → length row ≡ row_bytes → ((k : ℕ) → get_or row k 0 ≡ 0)
      → ((r : ℕ) → r < from → delay p.layout (r % p.layout.rows) + total p.layout ≤ line * p.layout.symbols) → RowTo p word line from row
  row_begun from row long zeros past =
      record {
        long = long;
        rest = λ k l. zeros k;
        held = λ k l.
            let y : ℕ = line * p.layout.symbols + k in
            let v : ℕ = y % p.layout.rows in
            ⊎_elim
            (λ (a : v < from).
            let low : v < p.layout.rows = mod-lt y fine.rows_least in
            let same : v % p.layout.rows ≡ v = mod-eq_of_lt low in
            let h : delay p.layout v + total p.layout ≤ line * p.layout.symbols = rw same at (past v a) in
            zeros k ∙ sym (rw (lt-ltb v from a) (no_more p word y (delay p.layout v) refl (omega arith))))
            (λ (a : from ≤ v). zeros k ∙ sym (rw (le-ltb v from a) refl))
            (lt_or_le v from);
      }

  -- and those from `to` on have none yet
  pub row_ended : (to : ℕ) (row : List ℕ)
      → ((r : ℕ) → to ≤ r → r < p.layout.rows → line * p.layout.symbols + p.layout.symbols ≤ delay p.layout (r % p.layout.rows))
      → RowTo p word line to row → Symbols p word (line * unit p.layout + p.layout.markers) p.layout.symbols row
  row_ended to row none held k l =
      let y : ℕ = line * p.layout.symbols + k in
      let v : ℕ = y % p.layout.rows in
      let low : v < p.layout.rows = mod-lt y fine.rows_least in
      let e : line * unit p.layout + p.layout.markers + k ≡ line * unit p.layout + (p.layout.markers + k) = omega arith in
      let is : symbol_at p word (line * unit p.layout + p.layout.markers + k) ≡ placed_symbol p word y = ap (symbol_at p word) e ∙ line_place p.layout p.marks (placed_symbol p word) line k l in
      held.held k l ∙ ⊎_elim
      (λ (a : v < to). rw (lt-ltb v to a) (sym is))
      (λ (a : to ≤ v).
      let same : v % p.layout.rows ≡ v = mod-eq_of_lt low in
      let h : line * p.layout.symbols + p.layout.symbols ≤ delay p.layout v = rw same at (none v a low) in
      rw (le-ltb v to a) (sym (is ∙ not_yet p word y (delay p.layout v) refl (omega arith))))
      (lt_or_le v to)

  pub row_below : (to : ℕ) (row : List ℕ) → RowTo p word line to row → Below p.group row
  row_below to row held k =
      let b = bounds p fine in
      let g : 1 ≤ p.group = let two = b.group_two in omega arith in
      ⊎_elim
      (λ (l : k < p.layout.symbols).
      let y : ℕ = line * p.layout.symbols + k in
      let v : ℕ = y % p.layout.rows in
      let low : placed_symbol p word y < p.group = let q = placed_below p fine word y in let m = b.group_least in omega arith in
      ⊎_elim
      (λ (a : v < to). let e : get_or row k 0 ≡ placed_symbol p word y = held.held k l ∙ rw (lt-ltb v to a) refl in rw e low)
      (λ (a : to ≤ v). let e : get_or row k 0 ≡ 0 = held.held k l ∙ rw (le-ltb v to a) refl in rw e (omega arith))
      (lt_or_le v to))
      (λ (l : p.layout.symbols ≤ k). let e = held.rest k l in rw e (omega arith))
      (lt_or_le k p.layout.symbols)

  -- what laying it asks for
  pub row_is : (to : ℕ) (row : List ℕ) → line < p.layout.lines → RowTo p word line to row → Row p (line * unit p.layout + p.layout.markers) p.layout.symbols row
  row_is to row l held =
      let inside : line * unit p.layout + unit p.layout ≤ layout_symbols p.layout = line_in (unit p.layout) p.layout.lines line l in
      let most = (bounds p fine).symbols_most in
      let long = held.long in
      record { fine = fine; inside = omega arith; long = omega arith; small = row_below to row held }

-- a word has many symbols
pub many : (p : Plan) → Fine p → 8 ≤ p.layout.symbols
many p fine =
    ⊎_elim
    (λ (l : p.layout.symbols < 8).
    let few : p.layout.symbols ≤ 7 = omega arith in
    let m : p.layout.symbols * p.bits ≤ 7 * 8 = mul-le-mul few fine.bits_most in
    let e = fine.symbols_are in
    absurd (omega arith))
    (λ (l : 8 ≤ p.layout.symbols). l)
    (lt_or_le p.layout.symbols 8)

-- and a line fewer places than a number of sixteen bits
pub places_few : (x end n count start : ℕ) → 1 ≤ n → start ≤ x → Places x end n count → end ≤ start + 7560 → count ≤ 2 ^ 16
places_few x end n count start pos from p l =
    ⊎_elim
    (λ (a : count < 1). omega arith)
    (λ (a : 1 ≤ count).
    let last : count - 1 < count = omega arith in
    let b = p.before (count - 1) last in
    let m : (count - 1) * 1 ≤ (count - 1) * n = mul-le-mul (le_refl (count - 1)) pos in
    omega arith)
    (lt_or_le count 1)
