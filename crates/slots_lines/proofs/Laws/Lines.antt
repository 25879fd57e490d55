-- A line of places, residue by residue: places of one residue have one delay, so that their symbols follow one another; a place that is not hit holds 0, as it was laid.
use mathlib.Core.Path.{◌≡◌, refl, sym, ap, ◌∙◌}
use mathlib.Core.Bool.{Bool, true, false}
use mathlib.Core.List.{List}
use mathlib.Core.Logic.{⊎_elim}
use Prim.Native.Nat.{ℕ, ◌+◌, ◌-◌, ◌*◌, ◌/◌, ◌%◌, ◌^◌, ◌≤◌, ◌<◌, min, max}
use native.Mathlib.Omega.{arith}
use native.Mathlib.Nat.{le_refl, mul-le-mul, mul_assoc, mod-lt, mod-eq_of_lt, div-lt_iff_lt-mul, le-div_iff_mul-le, zero-mul, add-mul-mod_self_right}
use lib.Dec.{ltb}
use lib.ListN.{length}
use borrow.Author.Tests.{lt-ltb, le-ltb, eq-eqb, ne_eqb}
use Rattle.bits.specs.Inner.{Ends}
use Rattle.bits.specs.Basics.{pick}
use Rattle.bits.proofs.Laws.Choice.{lt_or_le, eq_or_ne}
use Rattle.bits.specs.Pack.{bit_at, Bytes, cut}
use Rattle.bits.proofs.Laws.Pack.{bytes_made, cut_in, cut_past}
use Rattle.channel.proofs.Laws.Markers.{line_in, line_place}
use Rattle.channel.specs.declared.Layout.{Layout}
use Rattle.channel.specs.Inner.{delay}
use Rattle.channel.proofs.Laws.Places.{source, hit_is, placed_hit, placed_rest, same_apart}
use Rattle.pulses.specs.Pulses as pulses
use Rattle.plan.specs.declared.Plan.{Plan}
use Rattle.plan.specs.Inner.{Fine, slot_bytes}
use Rattle.plan.specs.Plan.{sent_count}
use Rattle.channel.specs.Channel.{total, unit, layout_symbols, hit_by}
use Rattle.slots.proofs.Laws.Bounds.{Bounds, bounds}
use Rattle.slots.specs.Writing.{data_symbol, placed_symbol, symbol_at, run_slot, run_slots}
use Rattle.slots_moves.specs.Inner.{Holds, Moved, front}
use Rattle.slots_lines.specs.Inner.{line_end, stride, sooner, so_far}

-- the most that a delay is
pub delay_most : (p : Plan) → Fine p → (x : ℕ) → delay p.layout (x % p.layout.rows) ≤ 128 * 32768
delay_most p fine x =
    let m : x % p.layout.rows < p.layout.rows = mod-lt x fine.rows_least in
    let r : x % p.layout.rows ≤ 128 = let b = fine.rows_most in omega arith in
    mul-le-mul r (bounds p fine).back_most

-- ---- lines

-- the numbers of line j, of which a residue r is put
pub record Sizes (p : Plan) (j r : ℕ) : Type 0 where
  pub of_plan : Bounds p
  pub places : j * p.layout.symbols + p.layout.symbols < 2 ^ 23
  pub symbols : j * unit p.layout + unit p.layout ≤ layout_symbols p.layout
  pub late : delay p.layout (r % p.layout.rows) ≤ 2 ^ 22
  pub rows_least : 1 ≤ p.layout.rows
  pub stride_least : 1 ≤ stride p.layout.rows
  pub stride_most : stride p.layout.rows ≤ 128

-- the copies of the symbols before line j lie within, and their slots
pub line_copies_inside : (p : Plan) (j : ℕ) → j ≤ p.layout.lines → j * unit p.layout * p.copies ≤ sent_count p
line_copies_inside p j l = mul-le-mul (mul-le-mul l (le_refl (unit p.layout))) (le_refl p.copies)

pub line_end_inside : (p : Plan) (j : ℕ) → j ≤ p.layout.lines → j * unit p.layout * p.copies * p.group ≤ sent_count p * p.group
line_end_inside p j l = mul-le-mul (line_copies_inside p j l) (le_refl p.group)

pub line_end_on : (p : Plan) (j : ℕ) → j * unit p.layout * p.copies * p.group ≤ (j + 1) * unit p.layout * p.copies * p.group
line_end_on p j = let l : j ≤ j + 1 = omega arith in mul-le-mul (mul-le-mul (mul-le-mul l (le_refl (unit p.layout))) (le_refl p.copies)) (le_refl p.group)

-- before the first line nothing is asked
pub holds_none : (p : Plan) (word : ℕ → List ℕ) (slots : List ℕ) → length slots ≡ slot_bytes p → Bytes slots → Holds p (front p word (0 * unit p.layout)) (line_end p 0) slots
holds_none p word slots e b =
    let z : 0 * unit p.layout * p.copies * p.group ≡ 0 = ap (λ (n : ℕ). n * p.copies * p.group) (zero-mul (unit p.layout)) ∙ ap (λ (n : ℕ). n * p.group) (zero-mul p.copies) ∙ zero-mul p.group in
    record { room = e; bytes = b; bits = λ x l. absurd (omega arith) }

-- with all of them, and no pulse after them, it is the definition
pub holds_all : (p : Plan) → Fine p → (word : ℕ → List ℕ) (slots after : List ℕ) → Holds p (front p word (p.layout.lines * unit p.layout)) (line_end p p.layout.lines) slots
    → Ends slots (p.layout.lines * unit p.layout * p.copies * p.group) after → Bytes after → after ≡ run_slots p word
unfolding run_slots pulses.slots_of pulses.slot_bit
holds_all p fine word slots after h e bytes =
    let n : ℕ = sent_count p in
    let g : 0 < p.group = let k = bounds p fine in omega arith in
    let room : length slots ≡ slot_bytes p = h.room in
    bytes_made (slot_bytes p) (run_slot p word) after (e.long ∙ room) bytes (λ x l.
    e.bits x (omega arith) ∙ ⊎_elim
    (λ (a : x / p.group < n).
    let low : x < n * p.group = (div-lt_iff_lt-mul g).0 a in
    let b : x / p.group / p.copies < layout_symbols p.layout = (div-lt_iff_lt-mul fine.copies_least).1 a in
    cut_in (n * p.group) (bit_at slots) x low ∙ h.bits x l ∙ rw (cut_in (layout_symbols p.layout) (symbol_at p word) (x / p.group / p.copies) b, lt-ltb (x / p.group) n a) refl)
    (λ (a : n ≤ x / p.group).
    let high : n * p.group ≤ x = (le-div_iff_mul-le g).0 a in
    cut_past (n * p.group) (bit_at slots) x high ∙ sym (rw (le-ltb (x / p.group) n a) refl))
    (lt_or_le (x / p.group) n))

-- ---- residues

stride_least : (rows : ℕ) → 1 ≤ rows → 1 ≤ stride rows
unfolding stride
stride_least rows h = ⊎_elim (λ (e : rows ≡ 1). rw (eq-eqb rows 1 e) (omega arith)) (λ (e : rows ≡ 1 → ⊥). rw (ne_eqb rows 1 e) h) (eq_or_ne rows 1)

stride_most : (rows : ℕ) → rows ≤ 128 → stride rows ≤ 128
unfolding stride
stride_most rows h = ⊎_elim (λ (e : rows ≡ 1). rw (eq-eqb rows 1 e) (omega arith)) (λ (e : rows ≡ 1 → ⊥). rw (ne_eqb rows 1 e) h) (eq_or_ne rows 1)

-- the residue modulo the stride tells the one modulo N
stride_rows : (rows y : ℕ) → 1 ≤ rows → y % stride rows % rows ≡ y % rows
unfolding stride
stride_rows rows y h =
    ⊎_elim
    (λ (e : rows ≡ 1). rw (eq-eqb rows 1 e, e) (omega arith))
    (λ (e : rows ≡ 1 → ⊥). rw (ne_eqb rows 1 e) (mod-eq_of_lt (mod-lt y h)))
    (eq_or_ne rows 1)

-- and a delay does not change it
stride_delay : (g : Layout) (r x : ℕ) → (x + delay g (r % g.rows)) % stride g.rows ≡ x % stride g.rows
unfolding stride
stride_delay g r x =
    ⊎_elim
    (λ (e : g.rows ≡ 1).
    let none : r % 1 * (g.step * 1) ≡ 0 = ap (λ (v : ℕ). v * (g.step * 1)) (let z : r % 1 ≡ 0 = omega arith in z) ∙ zero-mul (g.step * 1) in
    let same : x + r % 1 * (g.step * 1) ≡ x = omega arith in
    rw (eq-eqb g.rows 1 e, e) (ap (λ (y : ℕ). y % 8) same))
    (λ (e : g.rows ≡ 1 → ⊥).
    rw (ne_eqb g.rows 1 e)
    (ap (λ (d : ℕ). (x + d) % g.rows) (sym (mul_assoc (r % g.rows) g.step g.rows)) ∙ add-mul-mod_self_right x (r % g.rows * g.step) g.rows))
    (eq_or_ne g.rows 1)

pub sizes : (p : Plan) → Fine p → (j r : ℕ) → j < p.layout.lines → Sizes p j r
sizes p fine j r l =
    let k = bounds p fine in
    let symbols : j * unit p.layout + unit p.layout ≤ layout_symbols p.layout = line_in (unit p.layout) p.layout.lines j l in
    record {
      of_plan = k;
      places = omega arith;
      symbols = symbols;
      late = delay_most p fine r;
      rows_least = fine.rows_least;
      stride_least = stride_least p.layout.rows fine.rows_least;
      stride_most = stride_most p.layout.rows fine.rows_most;
    }

-- ---- the order of residues

sooner_other : (n r x y : ℕ) → (y % n ≡ r → ⊥) → sooner n r x y ≡ ltb (y % n) r
unfolding sooner
sooner_other n r x y h = rw (ne_eqb (y % n) r h) refl

sooner_same : (n r x y : ℕ) → y % n ≡ r → sooner n r x y ≡ ltb y x
unfolding sooner
sooner_same n r x y h = rw (eq-eqb (y % n) r h) refl

-- before its first place the residues below it are done
sooner_below : (n r y : ℕ) → sooner n r 0 y ≡ ltb (y % n) r
sooner_below n r y =
    ⊎_elim
    (λ (h : y % n ≡ r). let a : 0 ≤ y = omega arith in let b : r ≤ y % n = omega arith in sooner_same n r 0 y h ∙ le-ltb y 0 a ∙ sym (le-ltb (y % n) r b))
    (λ (h : y % n ≡ r → ⊥). sooner_other n r 0 y h)
    (eq_or_ne (y % n) r)

-- a stride on, one place more is before
sooner_on : (n r x y : ℕ) → x % n ≡ r → (y ≡ x → ⊥) → sooner n r x y ≡ sooner n r (x + n) y
sooner_on n r x y e ne =
    ⊎_elim
    (λ (h : y % n ≡ r).
    sooner_same n r x y h
    ∙ ⊎_elim
    (λ (a : y < x). let b : y < x + n = omega arith in lt-ltb y x a ∙ sym (lt-ltb y (x + n) b))
    (λ (a : x ≤ y). let b : x + n ≤ y = same_apart n x y (e ∙ sym h) (omega arith) in le-ltb y x a ∙ sym (le-ltb y (x + n) b))
    (lt_or_le y x)
    ∙ sym (sooner_same n r (x + n) y h))
    (λ (h : y % n ≡ r → ⊥). sooner_other n r x y h ∙ sym (sooner_other n r (x + n) y h))
    (eq_or_ne (y % n) r)

-- ---- what stands at a place, by the delay of its residue

module _ (p : Plan) (fine : Fine p) (word : ℕ → List ℕ) (r y : ℕ) (res : y % stride p.layout.rows ≡ r) where
  same_delay : delay p.layout (y % p.layout.rows) ≡ delay p.layout (r % p.layout.rows)
  same_delay = ap (delay p.layout) (sym (stride_rows p.layout.rows y fine.rows_least) ∙ ap (λ (v : ℕ). v % p.layout.rows) res)

  source_is : hit_by p.layout y ≡ pick (ltb y (delay p.layout (r % p.layout.rows))) (total p.layout) (pick (ltb (y - delay p.layout (r % p.layout.rows)) (total p.layout)) (y - delay p.layout (r % p.layout.rows)) (total p.layout))
  unfolding source
  source_is = hit_is p.layout y ∙ ap (λ (d : ℕ). pick (ltb y d) (total p.layout) (pick (ltb (y - d) (total p.layout)) (y - d) (total p.layout))) same_delay

  -- before the first symbol comes there, and after the last
  pub placed_early : y < delay p.layout (r % p.layout.rows) → placed_symbol p word y ≡ 0
  placed_early h =
      let e : hit_by p.layout y ≡ total p.layout = source_is ∙ rw (lt-ltb y (delay p.layout (r % p.layout.rows)) h) refl in
      placed_rest p.layout (data_symbol p word) y (omega arith)

  pub placed_late : delay p.layout (r % p.layout.rows) + total p.layout ≤ y → placed_symbol p word y ≡ 0
  placed_late h =
      let d : ℕ = delay p.layout (r % p.layout.rows) in
      let a : d ≤ y = omega arith in
      let b : total p.layout ≤ y - d = omega arith in
      let e : hit_by p.layout y ≡ total p.layout = source_is ∙ rw (le-ltb y d a, le-ltb (y - d) (total p.layout) b) refl in
      placed_rest p.layout (data_symbol p word) y (omega arith)

  pub placed_at : delay p.layout (r % p.layout.rows) ≤ y → y < delay p.layout (r % p.layout.rows) + total p.layout → placed_symbol p word y ≡ data_symbol p word (y - delay p.layout (r % p.layout.rows))
  placed_at a h =
      let d : ℕ = delay p.layout (r % p.layout.rows) in
      let b : y - d < total p.layout = omega arith in
      let e : hit_by p.layout y ≡ y - d = source_is ∙ rw (le-ltb y d a, lt-ltb (y - d) (total p.layout) b) refl in
      placed_hit p.layout (data_symbol p word) y (rw e b) ∙ ap (data_symbol p word) e

  -- its first symbol comes no sooner than at delay + r
  pub not_yet : r < stride p.layout.rows → y < delay p.layout (r % p.layout.rows) + r → y < delay p.layout (r % p.layout.rows)
  not_yet small h =
      let n : ℕ = stride p.layout.rows in
      let d : ℕ = delay p.layout (r % p.layout.rows) in
      ⊎_elim
      (λ (a : y < d). a)
      (λ (a : d ≤ y).
      let e : y - d + d ≡ y = omega arith in
      let low : y - d < n = omega arith in
      let m : y - d ≡ r = sym (mod-eq_of_lt low) ∙ sym (stride_delay p.layout r (y - d)) ∙ ap (λ (v : ℕ). v % n) e ∙ res in
      absurd (omega arith))
      (lt_or_le y d)

-- ---- the symbols of a line so far

module _ (p : Plan) (word : ℕ → List ℕ) (j : ℕ) where
  place_in_line : (k : ℕ) → k < p.layout.symbols → symbol_at p word (j * unit p.layout + p.layout.markers + k) ≡ placed_symbol p word (j * p.layout.symbols + k)
  place_in_line k l =
      let e : j * unit p.layout + p.layout.markers + k ≡ j * unit p.layout + (p.layout.markers + k) = omega arith in
      ap (symbol_at p word) e ∙ line_place p.layout p.marks (placed_symbol p word) j k l

  so_front : (r x s : ℕ) → s < j * unit p.layout + p.layout.markers → so_far p word j r x s ≡ symbol_at p word s
  unfolding so_far cut
  so_front r x s l =
      let first : ℕ = j * unit p.layout + p.layout.markers in
      let m : s < first + p.layout.symbols = omega arith in
      rw (lt-ltb s (first + p.layout.symbols) m, lt-ltb s first l) refl

  so_line : (r x k : ℕ) → k < p.layout.symbols → so_far p word j r x (j * unit p.layout + p.layout.markers + k) ≡ pick (sooner (stride p.layout.rows) r x (j * p.layout.symbols + k)) (placed_symbol p word (j * p.layout.symbols + k)) 0
  unfolding so_far cut
  so_line r x k l =
      let first : ℕ = j * unit p.layout + p.layout.markers in
      let m : first + k < first + p.layout.symbols = omega arith in
      let le : first ≤ first + k = omega arith in
      let back : first + k - first ≡ k = omega arith in
      rw (lt-ltb (first + k) (first + p.layout.symbols) m, le-ltb (first + k) first le, back, place_in_line k l) refl

  so_past : (r x s : ℕ) → j * unit p.layout + p.layout.markers + p.layout.symbols ≤ s → so_far p word j r x s ≡ 0
  unfolding so_far cut
  so_past r x s l = rw (le-ltb s (j * unit p.layout + p.layout.markers + p.layout.symbols) l) refl

  -- each of them: before the line's places, among them, or after them
  by_line : (r x s v : ℕ) → (s < j * unit p.layout + p.layout.markers → symbol_at p word s ≡ v)
      → ((k : ℕ) → k < p.layout.symbols → s ≡ j * unit p.layout + p.layout.markers + k → pick (sooner (stride p.layout.rows) r x (j * p.layout.symbols + k)) (placed_symbol p word (j * p.layout.symbols + k)) 0 ≡ v)
      → (j * unit p.layout + p.layout.markers + p.layout.symbols ≤ s → 0 ≡ v) → so_far p word j r x s ≡ v
  by_line r x s v hf hr hp =
      let first : ℕ = j * unit p.layout + p.layout.markers in
      ⊎_elim
      (λ (a : s < first). so_front r x s a ∙ hf a)
      (λ (a : first ≤ s). ⊎_elim
      (λ (b : s < first + p.layout.symbols).
      let k : ℕ = s - first in
      let e : s ≡ first + k = omega arith in
      let l : k < p.layout.symbols = omega arith in
      ap (so_far p word j r x) e ∙ so_line r x k l ∙ hr k l e)
      (λ (b : first + p.layout.symbols ≤ s). so_past r x s b ∙ hp b)
      (lt_or_le s (first + p.layout.symbols)))
      (lt_or_le s first)

  same_line : (r x u v s : ℕ) → ((y : ℕ) → j * p.layout.symbols ≤ y → y < j * p.layout.symbols + p.layout.symbols → s ≡ j * unit p.layout + p.layout.markers + (y - j * p.layout.symbols)
      → pick (sooner (stride p.layout.rows) r x y) (placed_symbol p word y) 0 ≡ pick (sooner (stride p.layout.rows) u v y) (placed_symbol p word y) 0) → so_far p word j r x s ≡ so_far p word j u v s
  same_line r x u v s h =
      by_line r x s (so_far p word j u v s)
      (λ l. sym (so_front u v s l))
      (λ k l e. h (j * p.layout.symbols + k) (omega arith) (omega arith) (omega arith) ∙ sym (ap (so_far p word j u v) e ∙ so_line u v k l))
      (λ l. sym (so_past u v s l))

  -- before the first residue, and after the last
  pub line_begun : (s : ℕ) → front p word (j * unit p.layout + p.layout.markers) s ≡ so_far p word j 0 0 s
  line_begun s =
      let n : ℕ = stride p.layout.rows in
      let first : ℕ = j * unit p.layout + p.layout.markers in
      sym (by_line 0 0 s (front p word first s) (λ l. sym (cut_in first (symbol_at p word) s l))
      (λ k l e.
      let y : ℕ = j * p.layout.symbols + k in
      let le : first ≤ s = omega arith in
      let none : sooner n 0 0 y ≡ false =
      ⊎_elim
      (λ (h : y % n ≡ 0). let z : 0 ≤ y = omega arith in sooner_same n 0 0 y h ∙ le-ltb y 0 z)
      (λ (h : y % n ≡ 0 → ⊥). let z : 0 ≤ y % n = omega arith in sooner_other n 0 0 y h ∙ le-ltb (y % n) 0 z)
      (eq_or_ne (y % n) 0) in
      ap (λ (t : Bool). pick t (placed_symbol p word y) 0) none ∙ sym (cut_past first (symbol_at p word) s le))
      (λ l. let le : first ≤ s = omega arith in sym (cut_past first (symbol_at p word) s le)))

  pub line_ended : 1 ≤ p.layout.rows → (s : ℕ) → so_far p word j (stride p.layout.rows) 0 s ≡ front p word ((j + 1) * unit p.layout) s
  line_ended least s =
      let n : ℕ = stride p.layout.rows in
      let end : ℕ = (j + 1) * unit p.layout in
      by_line n 0 s (front p word end s) (λ l. let m : s < end = omega arith in sym (cut_in end (symbol_at p word) s m))
      (λ k l e.
      let y : ℕ = j * p.layout.symbols + k in
      let m : s < end = omega arith in
      let low : y % n < n = mod-lt y (stride_least p.layout.rows least) in
      let all : sooner n n 0 y ≡ true = sooner_other n n 0 y (λ z. omega arith) ∙ lt-ltb (y % n) n low in
      ap (λ (t : Bool). pick t (placed_symbol p word y) 0) all ∙ sym (cut_in end (symbol_at p word) s m ∙ ap (symbol_at p word) e ∙ place_in_line k l))
      (λ l. let m : end ≤ s = omega arith in sym (cut_past end (symbol_at p word) s m))

  -- residues that have no symbol in the line
  residues_none : (a c s : ℕ) → a ≤ c → ((y : ℕ) → j * p.layout.symbols ≤ y → y < j * p.layout.symbols + p.layout.symbols → a ≤ y % stride p.layout.rows → y % stride p.layout.rows < c → placed_symbol p word y ≡ 0)
      → so_far p word j a 0 s ≡ so_far p word j c 0 s
  residues_none a c s order h =
      same_line a 0 c 0 s (λ y from to e.
      let n : ℕ = stride p.layout.rows in
      let v : ℕ = y % n in
      ⊎_elim
      (λ (l : v < a). let m : v < c = omega arith in rw (sooner_below n a y, sooner_below n c y, lt-ltb v a l, lt-ltb v c m) refl)
      (λ (l : a ≤ v). ⊎_elim
      (λ (m : v < c). rw (sooner_below n a y, sooner_below n c y, le-ltb v a l, lt-ltb v c m) (sym (h y from to l m)))
      (λ (m : c ≤ v). rw (sooner_below n a y, sooner_below n c y, le-ltb v a l, le-ltb v c m) refl)
      (lt_or_le v c))
      (lt_or_le v a))

  module _ (fine : Fine p) where
    pub residues_late : (k s : ℕ) → ((r : ℕ) → r < k → delay p.layout (r % p.layout.rows) + total p.layout ≤ j * p.layout.symbols) → so_far p word j 0 0 s ≡ so_far p word j k 0 s
    residues_late k s h =
        residues_none 0 k s (omega arith) (λ y from to a l. let q = h (y % stride p.layout.rows) l in placed_late p fine word (y % stride p.layout.rows) y refl (omega arith))

    pub residues_early : (k s : ℕ) → k ≤ stride p.layout.rows → ((r : ℕ) → k ≤ r → r < stride p.layout.rows → j * p.layout.symbols + p.layout.symbols ≤ delay p.layout (r % p.layout.rows)) → so_far p word j k 0 s ≡ so_far p word j (stride p.layout.rows) 0 s
    residues_early k s most h =
        residues_none k (stride p.layout.rows) s most (λ y from to a l. let q = h (y % stride p.layout.rows) a l in placed_early p fine word (y % stride p.layout.rows) y refl (omega arith))

  module _ (fine : Fine p) (r : ℕ) (small : r < stride p.layout.rows) where
    -- the first place of the residue that can be hit
    pub residue_first : (x first : ℕ) → first % stride p.layout.rows ≡ r → j * p.layout.symbols ≤ first → x ≡ max first (delay p.layout (r % p.layout.rows) + r)
        → (x % stride p.layout.rows ≡ r) × (j * p.layout.symbols ≤ x) × (delay p.layout (r % p.layout.rows) + r ≤ x)
    residue_first x first res from e =
        let n : ℕ = stride p.layout.rows in
        let d : ℕ = delay p.layout (r % p.layout.rows) in
        let far : (d + r) % n ≡ r = let c : d + r ≡ r + d = omega arith in ap (λ (v : ℕ). v % n) c ∙ stride_delay p.layout r r ∙ mod-eq_of_lt small in
        let m : x % n ≡ r =
        ⊎_elim
        (λ (l : first < d + r). let q : x ≡ d + r = omega arith in ap (λ (v : ℕ). v % n) q ∙ far)
        (λ (l : d + r ≤ first). let q : x ≡ first = omega arith in ap (λ (v : ℕ). v % n) q ∙ res)
        (lt_or_le first (d + r)) in
        (m, omega arith, omega arith)

    -- from there on: the places of the residue before it hold 0
    pub residue_begun : (x first : ℕ) → first % stride p.layout.rows ≡ r → first < j * p.layout.symbols + stride p.layout.rows → x ≡ max first (delay p.layout (r % p.layout.rows) + r)
        → (s : ℕ) → so_far p word j r 0 s ≡ so_far p word j r x s
    residue_begun x first res near e s =
        let n : ℕ = stride p.layout.rows in
        same_line r 0 r x s (λ y a b q. ⊎_elim
        (λ (h : y % n ≡ r).
        let z : 0 ≤ y = omega arith in
        ap (λ (t : Bool). pick t (placed_symbol p word y) 0) (sooner_same n r 0 y h ∙ le-ltb y 0 z)
        ∙ ⊎_elim
        (λ (l : y < x).
        let from : first ≤ y =
        ⊎_elim (λ (c : y < first). let f : y + n ≤ first = same_apart n y first (h ∙ sym res) c in absurd (omega arith)) (λ (c : first ≤ y). c) (lt_or_le y first) in
        let none : placed_symbol p word y ≡ 0 = placed_early p fine word r y h (not_yet p fine word r y h small (omega arith)) in
        sym (rw (sooner_same n r x y h, lt-ltb y x l) none))
        (λ (l : x ≤ y). sym (rw (sooner_same n r x y h, le-ltb y x l) refl))
        (lt_or_le y x))
        (λ (h : y % n ≡ r → ⊥). ap (λ (t : Bool). pick t (placed_symbol p word y) 0) (sooner_other n r 0 y h ∙ sym (sooner_other n r x y h)))
        (eq_or_ne (y % n) r))

    -- after its last place that is hit
    pub residue_ended : (x end : ℕ) → end ≡ min (j * p.layout.symbols + p.layout.symbols) (delay p.layout (r % p.layout.rows) + total p.layout) → end ≤ x
        → (s : ℕ) → so_far p word j r x s ≡ so_far p word j (r + 1) 0 s
    residue_ended x end e far s =
        let n : ℕ = stride p.layout.rows in
        same_line r x (r + 1) 0 s (λ y a b q. ⊎_elim
        (λ (h : y % n ≡ r).
        let next : y % n ≡ r + 1 → ⊥ = λ z. omega arith in
        let low : y % n < r + 1 = omega arith in
        let after : sooner n (r + 1) 0 y ≡ true = sooner_other n (r + 1) 0 y next ∙ lt-ltb (y % n) (r + 1) low in
        ⊎_elim
        (λ (l : y < x). rw (sooner_same n r x y h, lt-ltb y x l, after) refl)
        (λ (l : x ≤ y). rw (sooner_same n r x y h, le-ltb y x l, after) (sym (placed_late p fine word r y h (omega arith))))
        (lt_or_le y x))
        (λ (h : y % n ≡ r → ⊥). ap (λ (t : Bool). pick t (placed_symbol p word y) 0) (sooner_other n r x y h ∙ ⊎_elim
        (λ (g : y % n ≡ r + 1). let z : 0 ≤ y = omega arith in let f : r ≤ y % n = omega arith in le-ltb (y % n) r f ∙ sym (sooner_same n (r + 1) 0 y g ∙ le-ltb y 0 z))
        (λ (g : y % n ≡ r + 1 → ⊥). ⊎_elim
        (λ (l : y % n < r). let m : y % n < r + 1 = omega arith in lt-ltb (y % n) r l ∙ sym (sooner_other n (r + 1) 0 y g ∙ lt-ltb (y % n) (r + 1) m))
        (λ (l : r ≤ y % n). let m : r + 1 ≤ y % n = omega arith in le-ltb (y % n) r l ∙ sym (sooner_other n (r + 1) 0 y g ∙ le-ltb (y % n) (r + 1) m))
        (lt_or_le (y % n) r))
        (eq_or_ne (y % n) (r + 1))))
        (eq_or_ne (y % n) r))

    -- one place more: the pulse of its symbol is moved
    pub residue_more : (x at q end : ℕ) (slots after : List ℕ) → x % stride p.layout.rows ≡ r → j * p.layout.symbols ≤ x → x < j * p.layout.symbols + p.layout.symbols
        → at ≡ j * p.layout.markers + p.layout.markers + x → q ≡ placed_symbol p word x → Holds p (so_far p word j r x) end slots
        → Moved p at q slots after → Holds p (so_far p word j r (x + stride p.layout.rows)) end after
    residue_more x at q end slots after res a b place same h m =
        let n : ℕ = stride p.layout.rows in
        let k : ℕ = x - j * p.layout.symbols in
        let s : ℕ = j * unit p.layout + p.layout.markers + k in
        let l : k < p.layout.symbols = omega arith in
        let here : j * p.layout.symbols + k ≡ x = omega arith in
        let is : at ≡ s = omega arith in
        let least : 1 ≤ n = stride_least p.layout.rows fine.rows_least in
        let le : x ≤ x = omega arith in
        let lt : x < x + n = omega arith in
        let to : Moved p s q slots after = rw is at m in
        to.becomes (so_far p word j r x) (so_far p word j r (x + n)) end
        (so_line r x k l ∙ rw (here, sooner_same n r x x res, le-ltb x x le) refl)
        (so_line r (x + n) k l ∙ rw (here, sooner_same n r (x + n) x res, lt-ltb x (x + n) lt) (sym same))
        (λ u ne. same_line r x r (x + n) u (λ y c d z.
        let other : y ≡ x → ⊥ = λ w. ne (omega arith) in
        ap (λ (t : Bool). pick t (placed_symbol p word y) 0) (sooner_on n r x y res other)))
        h
