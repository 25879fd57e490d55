-- Laws of the symbols, markers counted, and of the places among them: W marker symbols, then S places, line after line.
use mathlib.Core.Path.{◌≡◌, refl, sym, ap, ap₂, ◌∙◌}
use mathlib.Core.Bool.{true}
use mathlib.Core.List.{List}
use mathlib.Core.Logic.{⊎_elim}
use Prim.Native.Nat.{ℕ, ◌+◌, ◌-◌, ◌*◌, ◌/◌, ◌%◌, ◌≤◌, ◌<◌}
use native.Mathlib.Omega.{arith}
use native.Mathlib.Nat.{le_refl, mul-le-mul, mod-lt, div-add-mod', div-lt_iff_lt-mul}
use lib.Arith.{digits_lt, digits_div, digits_mod}
use lib.Dec.{ltb, eqb}
use lib.ListN.{get_or}
use borrow.Author.Tests.{lt-ltb, le-ltb}
use Rattle.bits.specs.Basics.{pick}
use Rattle.bits.proofs.Laws.Choice.{lt_or_le}
use Rattle.channel.specs.declared.Layout.{Layout}
use Rattle.channel.specs.Channel.{total, unit, layout_symbols, hit_by, place_at, symbol_of, with_markers, mark_right, rest_zero}

-- ---- places and symbols

module _ (g : Layout) (least : 1 ≤ g.symbols) where
  low : (x : ℕ) → g.markers + x % g.symbols < unit g
  low x = let m : x % g.symbols < g.symbols = mod-lt x least in omega arith

  -- the symbol at a place is no marker symbol
  pub sym_mod : (x : ℕ) → symbol_of g x % unit g ≡ g.markers + x % g.symbols
  unfolding symbol_of
  sym_mod x = digits_mod (x / g.symbols) (low x)

  pub sym_div : (x : ℕ) → symbol_of g x / unit g ≡ x / g.symbols
  unfolding symbol_of
  sym_div x = digits_div (x / g.symbols) (low x)

  pub place_sym : (x : ℕ) → place_at g (symbol_of g x) ≡ x
  unfolding place_at
  place_sym x =
      let r : symbol_of g x % unit g - g.markers ≡ x % g.symbols = let m = sym_mod x in omega arith in
      ap₂ (λ (a b : ℕ). a * g.symbols + b) (sym_div x) r ∙ div-add-mod' x g.symbols

  pub sym_place : (s : ℕ) → g.markers ≤ s % unit g → symbol_of g (place_at g s) ≡ s
  unfolding symbol_of place_at
  sym_place s h =
      let u : 0 < unit g = omega arith in
      let m : s % unit g < unit g = mod-lt s u in
      let r : s % unit g - g.markers < g.symbols = omega arith in
      let q : g.markers + (s % unit g - g.markers) ≡ s % unit g = omega arith in
      ap₂ (λ (a b : ℕ). a * unit g + (g.markers + b)) (digits_div (s / unit g) r) (digits_mod (s / unit g) r)
      ∙ ap (λ (b : ℕ). s / unit g * unit g + b) q
      ∙ div-add-mod' s (unit g)

  -- the places of the lines are symbols of theirs
  pub sym_lt : (x : ℕ) → x < g.lines * g.symbols → symbol_of g x < layout_symbols g
  unfolding symbol_of
  sym_lt x h =
      let q : x / g.symbols < g.lines = (div-lt_iff_lt-mul least).1 h in
      digits_lt q (low x)

-- ---- what stands there

module _ (g : Layout) (marks : List ℕ) where
  pub marked_mark : (standing : ℕ → ℕ) (s : ℕ) → s % unit g < g.markers → with_markers g marks standing s ≡ get_or marks (s % unit g) 0
  unfolding with_markers
  marked_mark standing s h = rw (lt-ltb (s % unit g) g.markers h) refl

  pub marked_place : (standing : ℕ → ℕ) (s : ℕ) → g.markers ≤ s % unit g → with_markers g marks standing s ≡ standing (place_at g s)
  unfolding with_markers
  marked_place standing s h = rw (le-ltb (s % unit g) g.markers h) refl

  pub marked_below : (standing : ℕ → ℕ) (order : ℕ) → ((i : ℕ) → get_or marks i 0 < order) → ((x : ℕ) → standing x < order) → (s : ℕ) → with_markers g marks standing s < order
  marked_below standing order hm hs s =
      ⊎_elim
      (λ (h : s % unit g < g.markers). rw (marked_mark standing s h) (hm (s % unit g)))
      (λ (h : g.markers ≤ s % unit g). rw (marked_place standing s h) (hs (place_at g s)))
      (lt_or_le (s % unit g) g.markers)

  pub marked_same : (f k : ℕ → ℕ) → ((x : ℕ) → f x ≡ k x) → (s : ℕ) → with_markers g marks f s ≡ with_markers g marks k s
  marked_same f k h s =
      ⊎_elim
      (λ (l : s % unit g < g.markers). marked_mark f s l ∙ sym (marked_mark k s l))
      (λ (l : g.markers ≤ s % unit g). marked_place f s l ∙ h (place_at g s) ∙ sym (marked_place k s l))
      (lt_or_le (s % unit g) g.markers)

  -- by lines: marker symbol w of a line, and symbol k of it
  pub line_mark : (standing : ℕ → ℕ) (line w : ℕ) → w < g.markers → with_markers g marks standing (line * unit g + w) ≡ get_or marks w 0
  line_mark standing line w l =
      let small : w < unit g = omega arith in
      let m : (line * unit g + w) % unit g ≡ w = digits_mod line small in
      marked_mark standing (line * unit g + w) (rw m l) ∙ ap (λ (i : ℕ). get_or marks i 0) m

  pub line_place : (standing : ℕ → ℕ) (line k : ℕ) → k < g.symbols → with_markers g marks standing (line * unit g + (g.markers + k)) ≡ standing (line * g.symbols + k)
  unfolding place_at
  line_place standing line k l =
      let small : g.markers + k < unit g = omega arith in
      let m : (line * unit g + (g.markers + k)) % unit g ≡ g.markers + k = digits_mod line small in
      let d : (line * unit g + (g.markers + k)) / unit g ≡ line = digits_div line small in
      let back : g.markers + k - g.markers ≡ k = omega arith in
      let high : g.markers ≤ (line * unit g + (g.markers + k)) % unit g = rw m (omega arith) in
      marked_place standing (line * unit g + (g.markers + k)) high
      ∙ ap₂ (λ (a b : ℕ). standing (a * g.symbols + (b - g.markers))) d m
      ∙ ap (λ (b : ℕ). standing (line * g.symbols + b)) back

-- ---- lines

-- a line lies among so many
pub line_in : (size lines line : ℕ) → line < lines → line * size + size ≤ lines * size
line_in size lines line l = let k : line + 1 ≤ lines = omega arith in omega (arith, mul-le-mul k (le_refl size))

-- ---- questions 11 and 12 by lines

module _ (g : Layout) (line : ℕ) where
  pub in_line : (k : ℕ) → line * unit g ≤ k → k < line * unit g + unit g → k % unit g ≡ k - line * unit g
  in_line k a l =
      let r : k - line * unit g < unit g = omega arith in
      let e : line * unit g + (k - line * unit g) ≡ k = omega arith in
      ap (λ (i : ℕ). i % unit g) (sym e) ∙ digits_mod line r

  module _ (marks : List ℕ) (read : ℕ → ℕ) where
    -- marker symbol w of the line, and the places, of which question 11 asks nothing
    pub mark_here : (w : ℕ) → w < g.markers → mark_right g marks read (line * unit g + w) ≡ eqb (get_or marks w 0) (read (line * unit g + w))
    unfolding mark_right
    mark_here w h =
        let l : w < unit g = omega arith in
        rw (digits_mod line l, lt-ltb w g.markers h) refl

    pub mark_else : (k : ℕ) → line * unit g + g.markers ≤ k → k < line * unit g + unit g → mark_right g marks read k ≡ true
    unfolding mark_right
    mark_else k a l =
        let e : k % unit g ≡ k - line * unit g = in_line k (omega arith) l in
        rw (le-ltb (k % unit g) g.markers (omega arith)) refl

  module _ (read : ℕ → ℕ) where
    -- place i of the line, and the marker symbols, of which question 12 asks nothing
    rest_here : (i : ℕ) → i < g.symbols
        → rest_zero g read (line * unit g + (g.markers + i)) ≡ pick (ltb (hit_by g (line * g.symbols + i)) (total g)) true (eqb 0 (read (line * unit g + (g.markers + i))))
    unfolding rest_zero place_at
    rest_here i h =
        let l : g.markers + i < unit g = omega arith in
        let d : g.markers + i - g.markers ≡ i = omega arith in
        let n : g.markers ≤ g.markers + i = omega arith in
        rw (digits_mod line l, digits_div line l, le-ltb (g.markers + i) g.markers n, d) refl

    pub rest_hit : (i : ℕ) → i < g.symbols → hit_by g (line * g.symbols + i) < total g → rest_zero g read (line * unit g + (g.markers + i)) ≡ true
    rest_hit i h l = rest_here i h ∙ rw (lt-ltb (hit_by g (line * g.symbols + i)) (total g) l) refl

    pub rest_unhit : (i : ℕ) → i < g.symbols → total g ≤ hit_by g (line * g.symbols + i)
        → rest_zero g read (line * unit g + (g.markers + i)) ≡ eqb 0 (read (line * unit g + (g.markers + i)))
    rest_unhit i h l = rest_here i h ∙ rw (le-ltb (hit_by g (line * g.symbols + i)) (total g) l) refl

    pub rest_else : (k : ℕ) → line * unit g ≤ k → k < line * unit g + g.markers → rest_zero g read k ≡ true
    unfolding rest_zero
    rest_else k a l =
        let e : k % unit g ≡ k - line * unit g = in_line k a (omega arith) in
        rw (lt-ltb (k % unit g) g.markers (omega arith)) refl

-- a symbol that is 0 is right wherever it stands
pub rest_zero_lem : (g : Layout) (read : ℕ → ℕ) (s : ℕ) → read s ≡ 0 → rest_zero g read s ≡ true
unfolding rest_zero
rest_zero_lem g read s e =
    ⊎_elim
    (λ (h : s % unit g < g.markers). rw (lt-ltb (s % unit g) g.markers h) refl)
    (λ (h : g.markers ≤ s % unit g). ⊎_elim
    (λ (k : hit_by g (place_at g s) < total g). rw (le-ltb (s % unit g) g.markers h, lt-ltb (hit_by g (place_at g s)) (total g) k) refl)
    (λ (k : total g ≤ hit_by g (place_at g s)). rw (le-ltb (s % unit g) g.markers h, le-ltb (hit_by g (place_at g s)) (total g) k, e) refl)
    (lt_or_le (hit_by g (place_at g s)) (total g)))
    (lt_or_le (s % unit g) g.markers)
