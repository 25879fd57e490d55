-- Places of a line that are all hit: none of them is wrong, and the symbols before a place are those before it in the slots.
use mathlib.Core.Path.{◌≡◌, refl, sym, ap, ◌∙◌}
use mathlib.Core.Bool.{Bool, true}
use mathlib.Core.List.{List}
use mathlib.Core.Logic.{⊎_elim}
use Prim.Native.Nat.{ℕ, ◌+◌, ◌-◌, ◌*◌, ◌/◌, ◌%◌, ◌^◌, ◌≤◌, ◌<◌}
use native.Mathlib.Omega.{arith}
use native.Mathlib.Nat.{le_refl, mul-le-mul, mod-lt, div-add-mod'}
use lib.Dec.{ltb}
use borrow.Author.Tests.{lt-ltb, le-ltb}
use Rattle.bits.proofs.Laws.Choice.{lt_or_le, eq_or_ne}
use Rattle.bits.specs.Basics.{pick}
use Rattle.channel.proofs.Laws.Markers.{rest_hit}
use Rattle.channel.specs.Channel as channel
use Rattle.channel.specs.Channel.{total, unit, place, hit_by, symbol_of}
use Rattle.channel.specs.Inner.{delay}
use Rattle.plan.specs.declared.Plan.{Plan}
use Rattle.plan.specs.Inner.{Fine}
use Rattle.slots.proofs.Laws.Bounds.{bounds}
use Rattle.slots.specs.Reading.{pooled_in, data_in}
use Rattle.slots_residues.specs.Inner.{Room, Shown, Laid, before}
use Rattle.slots_symbols.specs.Inner.{Row}
use Rattle.slots_places.specs.Inner.{taken_bit, Took}
use Rattle.slots_places.proofs.Laws.Taken.{hit_at, symbol_there}

-- the symbol at each place
abbrev pub at_place : Plan → List ℕ → ℕ → ℕ
at_place p b z = pooled_in p b (symbol_of p.layout z)

module _ (p : Plan) (fine : Fine p) (b : List ℕ) (line s : ℕ) (low : line * unit p.layout + p.layout.markers ≤ s) (high : s ≤ line * unit p.layout + unit p.layout) where
  -- the symbols before symbol s of a line are at the places before its own
  before_same : (z : ℕ) → before (s - (line * p.layout.markers + p.layout.markers)) z ≡ ltb (symbol_of p.layout z) s
  unfolding channel.symbol_of
  before_same z =
      let g = p.layout in
      let x : ℕ = s - (line * g.markers + g.markers) in
      let a : ℕ = z / g.symbols in
      let d = div-add-mod' z g.symbols in
      let c : z % g.symbols < g.symbols = mod-lt z (bounds p fine).symbols_least in
      let is : ℕ = a * unit g + (g.markers + z % g.symbols) in
      ⊎_elim
      (λ (l : a < line).
      let up : a + 1 ≤ line = omega arith in
      let m : (a + 1) * g.symbols ≤ line * g.symbols = mul-le-mul up (le_refl g.symbols) in
      let k : (a + 1) * unit g ≤ line * unit g = mul-le-mul up (le_refl (unit g)) in
      let f : z < x = omega arith in
      let h : is < s = omega arith in
      lt-ltb z x f ∙ sym (lt-ltb is s h))
      (λ (l : line ≤ a). ⊎_elim
      (λ (e : a ≡ line).
      let m : a * g.symbols ≡ line * g.symbols = ap (λ (v : ℕ). v * g.symbols) e in
      let k : a * unit g ≡ line * unit g = ap (λ (v : ℕ). v * unit g) e in
      ⊎_elim
      (λ (f : z < x). let h : is < s = omega arith in lt-ltb z x f ∙ sym (lt-ltb is s h))
      (λ (f : x ≤ z). let h : s ≤ is = omega arith in le-ltb z x f ∙ sym (le-ltb is s h))
      (lt_or_le z x))
      (λ (e : a ≡ line → ⊥).
      let up : line + 1 ≤ a = omega arith in
      let m : (line + 1) * g.symbols ≤ a * g.symbols = mul-le-mul up (le_refl g.symbols) in
      let k : (line + 1) * unit g ≤ a * unit g = mul-le-mul up (le_refl (unit g)) in
      let f : x ≤ z = omega arith in
      let h : s ≤ is = omega arith in
      le-ltb z x f ∙ sym (le-ltb is s h))
      (eq_or_ne a line))
      (lt_or_le a line)

  abbrev value : ℕ → ℕ
  value y = data_in p b (y / p.bits) / 2 ^ (p.bits - 1 - y % p.bits) % 2

  pub took_laid : (words : List ℕ) → Took p b s words → Laid p (at_place p b) (before (s - (line * p.layout.markers + p.layout.markers))) words
  unfolding taken_bit
  took_laid words t = record { right = λ y l. t.right y l ∙ ap (λ (q : Bool). pick q (value y) 0) (sym (before_same (place p.layout (y / p.bits)))) }

  pub laid_took : (words : List ℕ) → Room p words → Laid p (at_place p b) (before (s - (line * p.layout.markers + p.layout.markers))) words → Took p b s words
  unfolding taken_bit
  laid_took words room t = record { room = room; right = λ y l. t.right y l ∙ ap (λ (q : Bool). pick q (value y) 0) (before_same (place p.layout (y / p.bits))) }

-- a row of a line's symbols shows its places
pub shown_row : (p : Plan) (b row : List ℕ) (line base s to : ℕ) → Row p b base to row → base ≤ s → line * unit p.layout + p.layout.markers ≤ s → s ≤ to → to ≤ line * unit p.layout + unit p.layout
    → Shown (at_place p b) row (s - base) (to - base - (s - base)) (s - (line * p.layout.markers + p.layout.markers))
shown_row p b row line base s to has start low order high k l =
    let g = p.layout in
    let i : ℕ = s + k - (line * unit g + g.markers) in
    let here : base + (s - base + k) ≡ line * unit g + (g.markers + i) = omega arith in
    let there : s - (line * g.markers + g.markers) + k ≡ line * g.symbols + i = omega arith in
    has.symbols (s - base + k) (omega arith)
    ∙ ap (pooled_in p b) (here ∙ sym (symbol_there g line i (omega arith)) ∙ ap (symbol_of g) (sym there))

-- places that are hit hold what they hold
pub full_right : (p : Plan) → Fine p → (read : ℕ → ℕ) (line s to : ℕ) → line * unit p.layout + p.layout.markers ≤ s → to ≤ line * unit p.layout + unit p.layout
    → delay p.layout (p.layout.rows - 1) ≤ s - (line * p.layout.markers + p.layout.markers) → to - (line * p.layout.markers + p.layout.markers) ≤ total p.layout
    → (k : ℕ) → s ≤ k → k < to → channel.rest_zero p.layout read k ≡ true
full_right p fine read line s to low high begun end k from l =
    let g = p.layout in
    let i : ℕ = k - (line * unit g + g.markers) in
    let x : ℕ = line * g.symbols + i in
    let here : line * unit g + (g.markers + i) ≡ k = omega arith in
    let late : ℕ = delay g (x % g.rows) in
    let m : x % g.rows < g.rows = mod-lt x fine.rows_least in
    let most : late ≤ delay g (g.rows - 1) = mul-le-mul (let q : x % g.rows ≤ g.rows - 1 = omega arith in q) (le_refl (g.step * g.rows)) in
    let over : late ≤ x = omega arith in
    let inside : x - late < total g = omega arith in
    let hit : hit_by g x < total g = rw (hit_at g x late refl over inside) inside in
    ap (channel.rest_zero g read) (sym here) ∙ rest_hit g line read i (omega arith) hit
