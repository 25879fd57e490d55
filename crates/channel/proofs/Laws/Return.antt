-- The laws of return: the symbols of words pass questions 11 and 12 and give the words back, and symbols that pass are those of the words in them.
use mathlib.Core.Path.{◌≡◌, refl, sym, ap, ◌∙◌}
use mathlib.Core.Bool.{true}
use mathlib.Core.List.{List}
use mathlib.Core.Logic.{⊎_elim}
use Prim.Native.Nat.{ℕ, ◌+◌, ◌-◌, ◌*◌, ◌%◌, ◌≤◌, ◌<◌}
use native.Mathlib.Omega.{arith}
use lib.ListN.{get_or}
use borrow.Author.Tests.{lt-ltb, le-ltb, eq-eqb, eqb-true}
use Rattle.bits.proofs.Laws.Choice.{lt_or_le}
use Rattle.channel.specs.declared.Layout.{Layout}
use Rattle.channel.specs.Channel.{total, unit, layout_symbols, place, hit_by, placed, place_at, symbol_of, with_markers, mark_right, rest_zero}
use Rattle.channel.specs.Inner.{delay}
use Rattle.channel.proofs.Laws.Places.{hit_place, place_hit, place_lt, placed_hit, placed_rest}
use Rattle.channel.proofs.Laws.Markers.{sym_mod, place_sym, sym_place, sym_lt, marked_mark, marked_place}

-- the lines hold the places of all symbols
module _ (g : Layout) (rows_least : 1 ≤ g.rows) (symbols_least : 1 ≤ g.symbols) (lines_are : g.lines * g.symbols ≡ total g + delay g (g.rows - 1)) where
  -- symbol t stands among the lines' symbols
  pub stands_lt : (t : ℕ) → t < total g → symbol_of g (place g t) < layout_symbols g
  stands_lt t l =
      let p : place g t < g.lines * g.symbols = let q = place_lt g rows_least t l in omega arith in
      sym_lt g symbols_least (place g t) p

  module _ (marks : List ℕ) (symbol : ℕ → ℕ) where
    -- and is what is found there
    pub stands : (t : ℕ) → t < total g → with_markers g marks (placed g symbol) (symbol_of g (place g t)) ≡ symbol t
    stands t l =
        let s : ℕ = symbol_of g (place g t) in
        let m : s % unit g ≡ g.markers + place g t % g.symbols = sym_mod g symbols_least (place g t) in
        let hit : hit_by g (place g t) ≡ t = hit_place g t l in
        marked_place g marks (placed g symbol) s (omega arith)
        ∙ ap (placed g symbol) (place_sym g symbols_least (place g t))
        ∙ placed_hit g symbol (place g t) (omega arith)
        ∙ ap symbol hit

    -- ---- what was sent, read as it is
    module _ (read : ℕ → ℕ) (s : ℕ) (same : read s ≡ with_markers g marks (placed g symbol) s) where
      pub mark_passes : mark_right g marks read s ≡ true
      unfolding mark_right
      mark_passes =
          ⊎_elim
          (λ (h : s % unit g < g.markers).
          rw (lt-ltb (s % unit g) g.markers h)
          (eq-eqb (get_or marks (s % unit g) 0) (read s) (sym (same ∙ marked_mark g marks (placed g symbol) s h))))
          (λ (h : g.markers ≤ s % unit g). rw (le-ltb (s % unit g) g.markers h) refl)
          (lt_or_le (s % unit g) g.markers)

      pub rest_passes : rest_zero g read s ≡ true
      unfolding rest_zero
      rest_passes =
          let x : ℕ = place_at g s in
          ⊎_elim
          (λ (h : s % unit g < g.markers). rw (lt-ltb (s % unit g) g.markers h) refl)
          (λ (h : g.markers ≤ s % unit g). ⊎_elim
          (λ (k : hit_by g x < total g). rw (le-ltb (s % unit g) g.markers h, lt-ltb (hit_by g x) (total g) k) refl)
          (λ (k : total g ≤ hit_by g x).
          let e : read s ≡ 0 = same ∙ marked_place g marks (placed g symbol) s h ∙ placed_rest g symbol x k in
          rw (le-ltb (s % unit g) g.markers h, le-ltb (hit_by g x) (total g) k) (eq-eqb 0 (read s) (sym e)))
          (lt_or_le (hit_by g x) (total g)))
          (lt_or_le (s % unit g) g.markers)

    -- ---- what passes, with these symbols where they stand
    pub read_again : (read : ℕ → ℕ) → ((t : ℕ) → t < total g → symbol t ≡ read (symbol_of g (place g t)))
        → (s : ℕ) → mark_right g marks read s ≡ true → rest_zero g read s ≡ true
        → read s ≡ with_markers g marks (placed g symbol) s
    unfolding mark_right rest_zero
    read_again read same s mark rest =
        let x : ℕ = place_at g s in
        ⊎_elim
        (λ (h : s % unit g < g.markers).
        sym (marked_mark g marks (placed g symbol) s h
        ∙ eqb-true (get_or marks (s % unit g) 0) (read s) (rw (lt-ltb (s % unit g) g.markers h) at mark)))
        (λ (h : g.markers ≤ s % unit g). ⊎_elim
        (λ (k : hit_by g x < total g).
        sym (marked_place g marks (placed g symbol) s h
        ∙ placed_hit g symbol x k
        ∙ same (hit_by g x) k
        ∙ ap (λ (y : ℕ). read (symbol_of g y)) (place_hit g x k)
        ∙ ap read (sym_place g symbols_least s h)))
        (λ (k : total g ≤ hit_by g x).
        sym (marked_place g marks (placed g symbol) s h
        ∙ placed_rest g symbol x k
        ∙ eqb-true 0 (read s) (rw (le-ltb (s % unit g) g.markers h, le-ltb (hit_by g x) (total g) k) at rest)))
        (lt_or_le (hit_by g x) (total g)))
        (lt_or_le (s % unit g) g.markers)
