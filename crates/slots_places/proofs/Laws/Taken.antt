-- The words as they fill: zeros leave them as they are, no symbol of theirs stands at a marker or at a place that is not hit, and a hit lays just its own bits.
use mathlib.Core.Path.{◌≡◌, refl, sym, ap, ap₂, ◌∙◌}
use mathlib.Core.List.{List}
use mathlib.Core.Logic.{◌⊎◌, inl, inr, ⊎_elim}
use Prim.Native.Nat.{ℕ, ◌+◌, ◌-◌, ◌*◌, ◌/◌, ◌%◌, ◌^◌, ◌≤◌, ◌<◌}
use native.Mathlib.Omega.{arith}
use native.Mathlib.Nat.{mul_assoc, mod-lt, zero-div, div-add-mod', div-lt_iff_lt-mul}
use lib.Arith.{digits_lt, digits_div, digits_mod}
use lib.Bits.{bit_xor, xor_comm, xor_zero_r}
use lib.Dec.{eqb}
use lib.ListN.{length, get_or-eq_default}
use borrow.Author.Tests.{lt-ltb, le-ltb}
use Rattle.bits.proofs.Laws.Choice.{lt_or_le, eq_or_ne}
use Rattle.bits.specs.Basics.{bool}
use Rattle.bits.specs.Pack.{bit_at, Bytes, piece}
use Rattle.bits.proofs.Laws.Pack.{bytes_made}
use Rattle.bits.proofs.Laws.Pieces.{length_piece, piece_at, piece_bit}
use Rattle.sizes.specs.Sizes.{word_bits, word_bytes}
use Rattle.channel.specs.Channel as channel
use Rattle.channel.proofs.Laws.Markers.{sym_mod, place_sym, in_line, rest_hit, rest_unhit}
use Rattle.channel.proofs.Laws.Places.{place_on, place_back, place_one, place_hit, hit_none, hit_here, hit_place}
use Rattle.channel.specs.declared.Layout.{Layout}
use Rattle.channel.specs.Inner.{delay, Put}
use Rattle.channel.proofs.Laws.Return as returns
use Rattle.plan.specs.declared.Plan.{Plan}
use Rattle.plan.specs.Inner.{Fine}
use Rattle.channel.specs.Channel.{total, unit, layout_symbols, place, hit_by, symbol_of}
use Rattle.slots.proofs.Laws.Bounds.{bounds}
use Rattle.slots.specs.Reading.{pooled_in, data_in, word_out}
use Rattle.slots_places.specs.Inner.{Cleared, Placed, taken_bit, Took}

-- ---- the symbol of a place by its delay

module _ (g : Layout) (x late : ℕ) (e : late ≡ delay g (x % g.rows)) where
  pub hit_at : late ≤ x → x - late < total g → hit_by g x ≡ x - late
  hit_at a l = hit_here g x (x - late) l (place_back g x (x - late) (omega arith))

  hit_not : (late ≤ x → x - late < total g → ⊥) → hit_by g x ≡ total g
  hit_not n =
      hit_none g x (λ t l q.
      let on : x ≡ t + delay g (x % g.rows) = sym q ∙ place_on g t ∙ ap (λ (y : ℕ). t + delay g (y % g.rows)) q in
      n (omega arith) (omega arith))

-- the symbol at place i of a line
pub symbol_there : (g : Layout) (line i : ℕ) → i < g.symbols → symbol_of g (line * g.symbols + i) ≡ line * unit g + (g.markers + i)
unfolding channel.symbol_of
symbol_there g line i inside = ap₂ (λ (u v : ℕ). u * unit g + (g.markers + v)) (digits_div line inside) (digits_mod line inside)

hits : (late x n : ℕ) → ((late ≤ x) × (x - late < n)) ⊎ (late ≤ x → x - late < n → ⊥)
hits late x n =
    ⊎_elim
    (λ (a : x < late). inr (λ b l. omega arith))
    (λ (a : late ≤ x). ⊎_elim (λ (l : x - late < n). inl (a, l)) (λ (l : n ≤ x - late). inr (λ b m. omega arith)) (lt_or_le (x - late) n))
    (lt_or_le x late)

module _ (p : Plan) (fine : Fine p) (b : List ℕ) where
  -- where symbol t stands
  abbrev stands : ℕ → ℕ
  stands t = symbol_of p.layout (place p.layout t)

  stands_lt : (t : ℕ) → t < total p.layout → stands t < layout_symbols p.layout
  stands_lt = returns.stands_lt p.layout fine.rows_least (bounds p fine).symbols_least fine.lines_are

  stands_one : (t u : ℕ) → stands t ≡ stands u → t ≡ u
  stands_one t u e =
      place_one p.layout t u
      (sym (place_sym p.layout (bounds p fine).symbols_least (place p.layout t))
      ∙ ap (channel.place_at p.layout) e
      ∙ place_sym p.layout (bounds p fine).symbols_least (place p.layout u))

  -- the symbol of a bit of the words
  of_bit : (y : ℕ) → y < p.layout.words * word_bits → y / p.bits < total p.layout
  of_bit y l =
      let some : 0 < p.bits = let a = fine.bits_least in omega arith in
      let e : total p.layout * p.bits ≡ p.layout.words * word_bits = mul_assoc p.layout.words p.layout.symbols p.bits ∙ ap (λ (v : ℕ). p.layout.words * v) fine.symbols_are in
      (div-lt_iff_lt-mul some).1 (let k : y < total p.layout * p.bits = omega arith in k)

  taken_skip : (from to y : ℕ) → from ≤ to → (from ≤ stands (y / p.bits) → stands (y / p.bits) < to → data_in p b (y / p.bits) ≡ 0) → taken_bit p b from y ≡ taken_bit p b to y
  unfolding taken_bit
  taken_skip from to y order h =
      let s : ℕ = stands (y / p.bits) in
      ⊎_elim
      (λ (l : s < from). let m : s < to = omega arith in rw (lt-ltb s from l, lt-ltb s to m) refl)
      (λ (l : from ≤ s). ⊎_elim
      (λ (m : s < to). rw (le-ltb s from l, lt-ltb s to m, h l m) (sym (ap (λ (v : ℕ). v % 2) (zero-div (2 ^ (p.bits - 1 - y % p.bits))))))
      (λ (m : to ≤ s). rw (le-ltb s from l, le-ltb s to m) refl)
      (lt_or_le s to))
      (lt_or_le s from)

  module _ (words : List ℕ) where
    pub took_start : Cleared p words → Took p b 0 words
    unfolding taken_bit bit_at
    took_start c =
        record {
          room = c.room;
          right = λ y l.
              let none : 0 ≤ stands (y / p.bits) = omega arith in
              rw (c.empty (y / 8), le-ltb (stands (y / p.bits)) 0 none) (ap (λ (v : ℕ). v % 2) (zero-div (2 ^ (7 - y % 8))));
        }

    took_skip : (from to : ℕ) → from ≤ to → ((t : ℕ) → t < total p.layout → from ≤ stands t → stands t < to → data_in p b t ≡ 0) → Took p b from words → Took p b to words
    took_skip from to order h k =
        record { room = k.room; right = λ y l. k.right y l ∙ taken_skip from to y order (h (y / p.bits) (of_bit y l)) }

    -- symbols that are 0
    pub took_zeros : (from to : ℕ) → from ≤ to → ((k : ℕ) → from ≤ k → k < to → pooled_in p b k ≡ 0) → Took p b from words → Took p b to words
    took_zeros from to order h = took_skip from to order (λ t l a m. h (stands t) a m)

    -- marker symbols
    pub took_marks : (line from to : ℕ) → from ≤ to → line * unit p.layout ≤ from → (from < to → to ≤ line * unit p.layout + p.layout.markers) → Took p b from words → Took p b to words
    took_marks line from to order low high =
        took_skip from to order (λ t l a m.
        let some : from < to = omega arith in
        let top = high some in
        let e : stands t % unit p.layout ≡ stands t - line * unit p.layout = in_line p.layout line (stands t) (omega arith) (let g = (bounds p fine).symbols_least in omega arith) in
        let f = sym_mod p.layout (bounds p fine).symbols_least (place p.layout t) in
        absurd (omega arith))

    -- place i of a line
    module _ (line i : ℕ) (inside : i < p.layout.symbols) where
      abbrev x : ℕ
      x = line * p.layout.symbols + i

      abbrev s : ℕ
      s = line * unit p.layout + (p.layout.markers + i)

      at : symbol_of p.layout x ≡ s
      at = symbol_there p.layout line i inside

      back : (t : ℕ) → stands t ≡ s → place p.layout t ≡ x
      back t e =
          sym (place_sym p.layout (bounds p fine).symbols_least (place p.layout t))
          ∙ ap (channel.place_at p.layout) (e ∙ sym at)
          ∙ place_sym p.layout (bounds p fine).symbols_least x

      pub took_unhit : total p.layout ≤ hit_by p.layout x → Took p b s words → Took p b (s + 1) words
      took_unhit none =
          took_skip s (s + 1) (omega arith) (λ t l a m.
          let e : place p.layout t ≡ x = back t (omega arith) in
          let h : hit_by p.layout x ≡ t = ap (hit_by p.layout) (sym e) ∙ hit_place p.layout t l in
          absurd (omega arith))

      pub took_hit : (after : List ℕ) → hit_by p.layout x < total p.layout → Put (hit_by p.layout x) p.bits (pooled_in p b s) words after → Took p b s words → Took p b (s + 1) after
      unfolding taken_bit
      took_hit after hit put k =
          let t : ℕ = hit_by p.layout x in
          let here : stands t ≡ s = ap (symbol_of p.layout) (place_hit p.layout x hit) ∙ at in
          record {
            room = let e = put.long in let r = k.room in omega arith;
            right = λ y l. ⊎_elim
                (λ (e : y / p.bits ≡ t).
                let st : stands (y / p.bits) ≡ s = ap stands e ∙ here in
                let up : s < s + 1 = omega arith in
                let past : s ≤ s = omega arith in
                let v : ℕ = pooled_in p b s / 2 ^ (p.bits - 1 - y % p.bits) % 2 in
                let zero : bit_at words y ≡ 0 = k.right y l ∙ rw (st, le-ltb s s past) refl in
                put.here y e
                ∙ ap (λ (u : ℕ). bit_xor u v) zero
                ∙ xor_comm 0 v ∙ xor_zero_r v
                ∙ sym (rw (st, lt-ltb s (s + 1) up) refl))
                (λ (n : y / p.bits ≡ t → ⊥).
                put.others y n
                ∙ k.right y l
                ∙ taken_skip s (s + 1) y (omega arith) (λ a m. absurd (n (stands_one (y / p.bits) t (let q : stands (y / p.bits) ≡ s = omega arith in q ∙ sym here)))))
                (eq_or_ne (y / p.bits) t);
          }

      -- what `take_place` makes of the symbol there
      took_placed : (late q r : ℕ) (after : List ℕ) → late ≡ delay p.layout (x % p.layout.rows) → q ≡ pooled_in p b s → Placed (total p.layout) p.bits x late q words r after
          → Took p b s words → (r ≡ bool (channel.rest_zero p.layout (pooled_in p b) s)) × Took p b (s + 1) after
      took_placed late q r after e same placed k =
          let g = p.layout in
          ⊎_elim
          (λ (a : late ≤ x × x - late < total g).
          let t : hit_by g x ≡ x - late = hit_at g x late e a.0 a.1 in
          let hit : hit_by g x < total g = let l = a.1 in omega arith in
          let o = placed.hit a.0 a.1 in
          (o.0 ∙ ap bool (sym (rest_hit g line (pooled_in p b) i inside hit)), took_hit after hit (rw (← t, same) at o.1) k))
          (λ (n : late ≤ x → x - late < total g → ⊥).
          let none : total g ≤ hit_by g x = let t = hit_not g x late e n in omega arith in
          let o = placed.unhit n in
          (o.0 ∙ ap (λ (v : ℕ). bool (eqb 0 v)) same ∙ ap bool (sym (rest_unhit g line (pooled_in p b) i inside none)), rw (sym o.1) at (took_unhit none k)))
          (hits late x (total g))

    -- the same by the symbol's number: its place is that of the line's first symbol further on, less the markers so far
    pub took_at : (line at late q r : ℕ) (after : List ℕ) → line * unit p.layout + p.layout.markers ≤ at → at < line * unit p.layout + unit p.layout
        → late ≡ delay p.layout ((at - (line * p.layout.markers + p.layout.markers)) % p.layout.rows) → q ≡ pooled_in p b at
        → Placed (total p.layout) p.bits (at - (line * p.layout.markers + p.layout.markers)) late q words r after
        → Took p b at words → (r ≡ bool (channel.rest_zero p.layout (pooled_in p b) at)) × Took p b (at + 1) after
    took_at line at late q r after low high e same placed k =
        let i : ℕ = at - (line * unit p.layout + p.layout.markers) in
        let here : line * unit p.layout + (p.layout.markers + i) ≡ at = omega arith in
        let there : at - (line * p.layout.markers + p.layout.markers) ≡ line * p.layout.symbols + i = omega arith in
        rw here at (took_placed line i (omega arith) late q r after (rw there at e) (rw here same) (rw there at placed) (rw here k))

    piece_bytes : Bytes words → (j : ℕ) → j < p.layout.words → Took p b (layout_symbols p.layout) words → Bytes (piece word_bytes words j)
    piece_bytes bytes j h k i =
        let room = k.room in
        ⊎_elim
        (λ (l : i < word_bytes). rw (piece_at word_bytes words j i l) (bytes (j * word_bytes + i)))
        (λ (l : word_bytes ≤ i).
        let long : length (piece word_bytes words j) ≡ word_bytes = length_piece word_bytes words j (omega arith) in
        let past : length (piece word_bytes words j) ≤ i = omega arith in
        rw (get_or-eq_default (piece word_bytes words j) 0 past) (omega arith))
        (lt_or_le i word_bytes)

    -- all symbols: the words
    pub took_words : Bytes words → Took p b (layout_symbols p.layout) words → (j : ℕ) → j < p.layout.words → piece word_bytes words j ≡ word_out p b j
    unfolding word_out channel.word_from channel.word_bit taken_bit
    took_words bytes k j h =
        let room = k.room in
        let some : 0 < p.bits = let a = fine.bits_least in omega arith in
        bytes_made word_bytes (channel.word_bit p.bits p.layout (data_in p b) j) (piece word_bytes words j) (length_piece word_bytes words j (omega arith)) (piece_bytes bytes j h k) (λ i l.
        let m : ℕ = p.bits in
        let y : ℕ = j * word_bits + i in
        let in_all : y < p.layout.words * word_bits = digits_lt h (let q : i < word_bits = omega arith in q) in
        let r : i % m < m = mod-lt i some in
        let whole : j * word_bits ≡ j * p.layout.symbols * m = ap (λ (v : ℕ). j * v) (sym fine.symbols_are) ∙ sym (mul_assoc j p.layout.symbols m) in
        let d = div-add-mod' i m in
        let e : y ≡ (j * p.layout.symbols + i / m) * m + i % m = omega arith in
        let q : y / m ≡ j * p.layout.symbols + i / m = ap (λ (v : ℕ). v / m) e ∙ digits_div (j * p.layout.symbols + i / m) r in
        let o : y % m ≡ i % m = ap (λ (v : ℕ). v % m) e ∙ digits_mod (j * p.layout.symbols + i / m) r in
        piece_bit word_bytes words j i l
        ∙ k.right y in_all
        ∙ rw (lt-ltb (stands (y / m)) (layout_symbols p.layout) (stands_lt (y / m) (of_bit y in_all))) (ap₂ (λ (u v : ℕ). data_in p b u / 2 ^ (m - 1 - v) % 2) q o))
