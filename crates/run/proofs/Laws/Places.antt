-- Questions 9 to 18 of a run by what they ask, symbol by symbol, word by word and frame by frame; and which refusal has which place.
use mathlib.Core.Path.{◌≡◌, refl, sym, ap, ◌∙◌}
use mathlib.Core.Bool.{Bool, true, false}
use mathlib.Core.List.{List, [], ◌∷◌}
use mathlib.Core.Logic.{◌⊎◌, inl, inr, ⊎_elim}
use Prim.Native.Nat.{ℕ, ◌+◌, ◌-◌, ◌*◌, ◌/◌, ◌%◌, ◌^◌, ◌≤◌, ◌<◌}
use native.Mathlib.Omega.{arith}
use native.Mathlib.Nat.{le_refl, mod-lt, div-add-mod'}
use lib.Dec.{eqb}
use lib.ListN.{length, get_or}
use borrow.Author.Tests.{lt-ltb, ltb-true, eq-eqb, ne_eqb, eqb-true}
use Rattle.bits.specs.Basics.{up_to}
use Rattle.bits.specs.Pack.{Bits, val, bit_at, clear_at, first_set}
use Rattle.bits.proofs.Laws.Choice.{lt_or_le}
use Rattle.bits.proofs.Laws.First.{found_none, none_found}
use Rattle.bits.proofs.Laws.Pack.{val_same, bit_val}
use Rattle.bits.proofs.Laws.Table.{true_false}
use Rattle.answers.specs.Answer.{Answer, Done, No, ask, then, among}
use Rattle.answers.proofs.Laws.Answer.{no_done, then_then, then_done, ask_done, ask_yes, ask_no, ask_refused, all_done, done_all}
use Rattle.channel.specs.Channel.{total, unit, layout_symbols, place, hit_by, mark_right, rest_zero}
use Rattle.channel.specs.declared.Layout.{Layout}
use Rattle.channel.proofs.Laws.Places.{hit_none, hit_here}
use Rattle.channel.proofs.Laws.Markers.{mark_here, mark_else, rest_hit, rest_unhit, rest_else}
use Rattle.sizes.specs.Sizes.{frame_marker, marker_bits, span, info_bits, block_bytes}
use Rattle.word.specs.Word.{block_in, word_read_says}
use Rattle.word.proofs.Laws.Exports.{read_numbers}
use Rattle.header.specs.Header.{fields_of}
use Rattle.header.specs.declared.Fields.{Fields}
use Rattle.header_sizes.specs.Quantities as quantities
use Rattle.header_questions.specs.Questions.{question1, question2, question3, question4, question5, question6, question7, question20, marks_good}
use Rattle.plan.specs.declared.Plan.{Plan}
use Rattle.plan.specs.Plan.{plan_in, sent_count}
use Rattle.plan.specs.Inner.{Fine, slot_bytes}
use Rattle.plan.specs.Lengths.{run_lengths_right, call_says}
use Rattle.plan.proofs.Laws.Accepted.{ready}
use Rattle.stream_writer.specs.Stream.{marker_bit}
use Rattle.stream_writer.proofs.Laws.Stream.{marker_val}
use Rattle.stream_reader.specs.Frames.{frame_marked, first_unmarked, zero_at, fill_zero}
use Rattle.stream_reader.proofs.Laws.Blocks.{joined_bits}
use Rattle.pulses.specs.Pulses as pulses
use Rattle.pool.specs.Pooled.{first_undecided}
use Rattle.slots.proofs.Laws.Bounds.{bounds}
use Rattle.slots.specs.Reading.{spare_slots_empty, pooled_in, first_bad_symbol, first_bad_mark, first_bad_rest, word_out}
use Rattle.slots.specs.Inner.{decided_in}
use Rattle.run.specs.Run.{stream_in, run_word_says, words_say, run_read_says}
use Rattle.run.proofs.Laws.Refusals.{FirstNo, AllYes, FirstRefused, Never, never_ask, never_then, among_others, last_of, others_done, not_yes, put_yes, yes_put, put_no, no_put, order_no, no_order}
use Rattle.run.proofs.Laws.Return.{fit}
use Rattle.run.proofs.Laws.Steps.{called_in_order, asked_in_order}

-- ---- 9: the spare bits

module _ (group n : ℕ) (b : List ℕ) (fit : n * group ≤ 8 * length b) where
  pub spare_told : pulses.spare_empty group n b ≡ true → (x : ℕ) → n * group ≤ x → x < 8 * length b → bit_at b x ≡ 0
  unfolding pulses.spare_empty first_set
  spare_told e x a l =
      eqb-true (bit_at b x) 0 (none_found (clear_at b) (n * group) (8 * length b) fit (eqb-true (up_to (clear_at b) (n * group) (8 * length b)) (8 * length b) e) x a l)

  pub spare_tells : ((x : ℕ) → n * group ≤ x → x < 8 * length b → bit_at b x ≡ 0) → pulses.spare_empty group n b ≡ true
  unfolding pulses.spare_empty first_set
  spare_tells h =
      eq-eqb (up_to (clear_at b) (n * group) (8 * length b)) (8 * length b)
      (found_none (clear_at b) (n * group) (8 * length b) fit (λ x a l. eq-eqb (bit_at b x) 0 (h x a l)))

-- ---- 11 and 12: symbol w of the markers of a line, and symbol i after them

module _ (g : Layout) (some : 1 ≤ g.symbols) (read : ℕ → ℕ) where
  line_is : (s : ℕ) → s / unit g * unit g + s % unit g ≡ s
  line_is s = div-add-mod' s (unit g)

  module _ (marks : List ℕ) where
    pub mark_told : (s : ℕ) → mark_right g marks read s ≡ true → (line w : ℕ) → w < g.markers → s ≡ line * unit g + w → read s ≡ get_or marks w 0
    mark_told s t line w l e =
        let here : mark_right g marks read (line * unit g + w) ≡ true = ap (mark_right g marks read) (sym e) ∙ t in
        ap read e ∙ sym (eqb-true (get_or marks w 0) (read (line * unit g + w)) (sym (mark_here g line marks read w l) ∙ here))

    pub mark_tells : (s : ℕ) → ((line w : ℕ) → w < g.markers → s ≡ line * unit g + w → read s ≡ get_or marks w 0) → mark_right g marks read s ≡ true
    mark_tells s h =
        let line : ℕ = s / unit g in
        let w : ℕ = s % unit g in
        let few : w < unit g = mod-lt s (omega arith) in
        let d : line * unit g + w ≡ s = line_is s in
        ⊎_elim
        (λ (l : w < g.markers).
        ap (mark_right g marks read) (sym d) ∙ mark_here g line marks read w l ∙ eq-eqb (get_or marks w 0) (read (line * unit g + w)) (sym (ap read d ∙ h line w l (sym d))))
        (λ (l : g.markers ≤ w). mark_else g line marks read s (omega arith) (omega arith))
        (lt_or_le w g.markers)

  pub rest_told : (s : ℕ) → rest_zero g read s ≡ true → (line i : ℕ) → i < g.symbols → s ≡ line * unit g + (g.markers + i)
      → ((t : ℕ) → t < total g → place g t ≡ line * g.symbols + i → ⊥) → read s ≡ 0
  rest_told s t line i l e none =
      let x : ℕ = line * g.symbols + i in
      let unhit : total g ≤ hit_by g x = rw (hit_none g x none) (le_refl (total g)) in
      let here : rest_zero g read (line * unit g + (g.markers + i)) ≡ true = ap (rest_zero g read) (sym e) ∙ t in
      ap read e ∙ sym (eqb-true 0 (read (line * unit g + (g.markers + i))) (sym (rest_unhit g line read i l unhit) ∙ here))

  pub rest_tells : (s : ℕ)
      → ((line i : ℕ) → i < g.symbols → s ≡ line * unit g + (g.markers + i) → ((t : ℕ) → t < total g → place g t ≡ line * g.symbols + i → ⊥) → read s ≡ 0)
      → rest_zero g read s ≡ true
  rest_tells s h =
      let line : ℕ = s / unit g in
      let w : ℕ = s % unit g in
      let few : w < unit g = mod-lt s (omega arith) in
      let d : line * unit g + w ≡ s = line_is s in
      ⊎_elim
      (λ (l : w < g.markers). rest_else g line read s (omega arith) (omega arith))
      (λ (l : g.markers ≤ w).
      let i : ℕ = w - g.markers in
      let small : i < g.symbols = omega arith in
      let x : ℕ = line * g.symbols + i in
      let at : line * unit g + (g.markers + i) ≡ s = omega arith in
      ap (rest_zero g read) (sym at)
      ∙ ⊎_elim
      (λ (k : hit_by g x < total g). rest_hit g line read i small k)
      (λ (k : total g ≤ hit_by g x).
      rest_unhit g line read i small k
      ∙ eq-eqb 0 (read (line * unit g + (g.markers + i)))
      (sym (ap read at ∙ h line i small (sym at) (λ t few e. let z : hit_by g x ≡ t = hit_here g x t few e in omega arith))))
      (lt_or_le (hit_by g x) (total g)))
      (lt_or_le w g.markers)

-- ---- 16 and 18: the marker before frame j, and the fill after the last

module _ (size : ℕ) (stream : ℕ → ℕ) (bits : Bits stream) where
  pub frame_told : (j : ℕ) → frame_marked size stream j ≡ true → (r : ℕ) → r < marker_bits → stream (j * span size + r) ≡ frame_marker / 2 ^ (31 - r) % 2
  unfolding frame_marked
  frame_told j t r l =
      let at : ℕ → ℕ = λ r. stream (j * span size + r) in
      sym (bit_val at (λ i. bits (j * span size + i)) (31 - r) r marker_bits (omega arith))
      ∙ ap (λ (v : ℕ). v / 2 ^ (31 - r) % 2) (eqb-true (val at marker_bits) frame_marker t)

  pub frame_tells : (j : ℕ) → ((r : ℕ) → r < marker_bits → stream (j * span size + r) ≡ frame_marker / 2 ^ (31 - r) % 2) → frame_marked size stream j ≡ true
  unfolding frame_marked marker_bit
  frame_tells j h =
      let at : ℕ → ℕ = λ r. stream (j * span size + r) in
      eq-eqb (val at marker_bits) frame_marker (val_same at marker_bit marker_bits h ∙ marker_val)

  module _ (count end : ℕ) (fit : count * span size ≤ end) where
    pub fill_told : fill_zero size count end stream ≡ true → (x : ℕ) → count * span size ≤ x → x < end → stream x ≡ 0
    unfolding fill_zero
    fill_told e x a l =
        eqb-true (stream x) 0 (none_found (zero_at stream) (count * span size) end fit (eqb-true (up_to (zero_at stream) (count * span size) end) end e) x a l)

    pub fill_tells : ((x : ℕ) → count * span size ≤ x → x < end → stream x ≡ 0) → fill_zero size count end stream ≡ true
    unfolding fill_zero
    fill_tells h =
        eq-eqb (up_to (zero_at stream) (count * span size) end) end
        (found_none (zero_at stream) (count * span size) end fit (λ x a l. eq-eqb (stream x) 0 (h x a l)))

-- ---- the numbers that a call's own questions cannot give

pub call_never : (header marker : List ℕ) (k n number : ℕ) → 9 ≤ number → (20 ≡ number → ⊥) → Never number (call_says header marker k n)
call_never header marker k n number big other =
    let f : Fields = fields_of header in
    rw (called_in_order header marker k n)
    (never_then number _ _ (never_ask number (question1 header) 1 0 (λ z. omega arith))
    (never_then number _ _ (never_ask number (question2 f) 2 0 (λ z. omega arith))
    (never_then number _ _ (never_ask number (question3 f) 3 0 (λ z. omega arith))
    (never_then number _ _ (never_ask number (question4 f) 4 0 (λ z. omega arith))
    (never_then number _ _ (never_ask number (question5 f) 5 0 (λ z. omega arith))
    (never_then number _ _ (never_ask number (question6 f) 6 0 (λ z. omega arith))
    (never_then number _ _ (never_ask number (question7 f) 7 0 (λ z. omega arith))
    (never_then number _ _ (never_ask number (marks_good f marker) 7 0 (λ z. omega arith))
    (never_then number _ _ (never_ask number (question20 f) 20 0 other)
    (never_ask number (run_lengths_right f (length marker) k n) 8 0 (λ z. omega arith)))))))))))

-- nor those of a word: it gives 2, 8 and 13 to 15
pub words_never : (f : Fields) (word : ℕ → List ℕ) (number : ℕ) → 9 ≤ number → (number < 13) ⊎ (15 < number) → Never number (words_say f word)
unfolding words_say run_word_says
words_never f word number big off p e =
    let r = order_no (quantities.block_count f) (λ j. word_read_says f.rate (word j) (block_bytes f.rate)) number p e in
    let listed = ap (among (0 ∷ 2 ∷ 8 ∷ 13 ∷ 14 ∷ 15 ∷ [])) (sym r.2) ∙ read_numbers f.rate (word p) (block_bytes f.rate) in
    let other : (k : ℕ) → (number ≡ k → ⊥) → eqb number k ≡ false = λ k ne. ne_eqb number k ne in
    let ne0 : number ≡ 0 → ⊥ = λ z. omega arith in
    let ne2 : number ≡ 2 → ⊥ = λ z. omega arith in
    let ne8 : number ≡ 8 → ⊥ = λ z. omega arith in
    let ne13 : number ≡ 13 → ⊥ = λ z. ⊎_elim (λ (l : number < 13). omega arith) (λ (l : 15 < number). omega arith) off in
    let ne14 : number ≡ 14 → ⊥ = λ z. ⊎_elim (λ (l : number < 13). omega arith) (λ (l : 15 < number). omega arith) off in
    let ne15 : number ≡ 15 → ⊥ = λ z. ⊎_elim (λ (l : number < 13). omega arith) (λ (l : 15 < number). omega arith) off in
    let unlisted : among (0 ∷ 2 ∷ 8 ∷ 13 ∷ 14 ∷ 15 ∷ []) number ≡ false = rw (other 0 ne0, other 2 ne2, other 8 ne8, other 13 ne13, other 14 ne14, other 15 ne15) refl in
    true_false (among (0 ∷ 2 ∷ 8 ∷ 13 ∷ 14 ∷ 15 ∷ []) number) listed unlisted

-- ---- the reader's questions: where the marker symbols that were lent are `mark`

module _ (header marker slots : List ℕ) (n : ℕ) (mark : ℕ → ℕ)
    (lent : call_says header marker n (length slots) ≡ Done → (w : ℕ) → w < (plan_in header marker).layout.markers → get_or (plan_in header marker).marks w 0 ≡ mark w) where
  abbrev f : Fields
  f = fields_of header

  abbrev p : Plan
  p = plan_in header marker

  abbrev count : ℕ
  count = layout_symbols p.layout

  abbrev read : ℕ → ℕ
  read s = pooled_in p slots s

  abbrev word : ℕ → List ℕ
  word j = word_out p slots j

  abbrev stream : ℕ → ℕ
  stream x = stream_in f (word_out p slots) x

  -- what each asks
  abbrev pub SpareZero : Type 0
  SpareZero = (x : ℕ) → sent_count p * p.group ≤ x → x < 8 * length slots → bit_at slots x ≡ 0

  abbrev pub Decided : ℕ → Type 0
  Decided s = read s < p.order

  abbrev pub MarkerRight : ℕ → Type 0
  MarkerRight s = (line w : ℕ) → w < p.layout.markers → s ≡ line * unit p.layout + w → read s ≡ mark w

  abbrev pub UnhitZero : ℕ → Type 0
  UnhitZero s =
      (line i : ℕ) → i < p.layout.symbols → s ≡ line * unit p.layout + (p.layout.markers + i)
      → ((t : ℕ) → t < total p.layout → place p.layout t ≡ line * p.layout.symbols + i → ⊥) → read s ≡ 0

  abbrev pub WordGood : ℕ → Type 0
  WordGood j = run_word_says f (word_out p slots) j ≡ Done

  abbrev pub Marked : ℕ → Type 0
  Marked j = (r : ℕ) → r < 32 → stream (j * span f.size + r) ≡ frame_marker / 2 ^ (31 - r) % 2

  abbrev pub FillZero : Type 0
  FillZero = (x : ℕ) → f.frames * span f.size ≤ x → x < quantities.block_count f * info_bits f.rate → stream x ≡ 0

  -- and what was answered yes before it
  abbrev pub Called : Type 0
  Called = call_says header marker n (length slots) ≡ Done

  abbrev pub Before10 : Type 0
  Before10 = Called × SpareZero

  abbrev pub Before11 : Type 0
  Before11 = Before10 × AllYes count Decided

  abbrev pub Before12 : Type 0
  Before12 = Before11 × AllYes count MarkerRight

  abbrev pub Before13 : Type 0
  Before13 = Before12 × AllYes count UnhitZero

  abbrev pub Before16 : Type 0
  Before16 = Before13 × AllYes (quantities.block_count f) WordGood

  abbrev pub Before18 : Type 0
  Before18 = Before16 × AllYes f.frames Marked

  -- the questions one after another
  abbrev c : Answer
  c = call_says header marker n (length slots)

  abbrev q9 : Answer
  q9 = ask (spare_slots_empty p slots) 9 0

  abbrev q10 : Answer
  q10 = ask (eqb (first_bad_symbol p slots) count) 10 (first_bad_symbol p slots)

  abbrev q11 : Answer
  q11 = ask (eqb (first_bad_mark p slots) count) 11 (first_bad_mark p slots)

  abbrev q12 : Answer
  q12 = ask (eqb (first_bad_rest p slots) count) 12 (first_bad_rest p slots)

  abbrev q13 : Answer
  q13 = words_say f (word_out p slots)

  abbrev q16 : Answer
  q16 = ask (eqb (first_unmarked f.size f.frames (stream_in f (word_out p slots))) f.frames) 16 (first_unmarked f.size f.frames (stream_in f (word_out p slots)))

  abbrev q18 : Answer
  q18 = ask (fill_zero f.size f.frames (quantities.block_count f * info_bits f.rate) (stream_in f (word_out p slots))) 18 0

  said_9 : run_read_says header marker slots n ≡ then c (then q9 (then q10 (then q11 (then q12 (then q13 (then q16 q18))))))
  unfolding run_read_says
  said_9 = ap (then c) (asked_in_order f p slots)

  said_10 : run_read_says header marker slots n ≡ then (then c q9) (then q10 (then q11 (then q12 (then q13 (then q16 q18)))))
  said_10 = said_9 ∙ sym (then_then c q9 (then q10 (then q11 (then q12 (then q13 (then q16 q18))))))

  said_11 : run_read_says header marker slots n ≡ then (then (then c q9) q10) (then q11 (then q12 (then q13 (then q16 q18))))
  said_11 = said_10 ∙ sym (then_then (then c q9) q10 (then q11 (then q12 (then q13 (then q16 q18)))))

  said_12 : run_read_says header marker slots n ≡ then (then (then (then c q9) q10) q11) (then q12 (then q13 (then q16 q18)))
  said_12 = said_11 ∙ sym (then_then (then (then c q9) q10) q11 (then q12 (then q13 (then q16 q18))))

  said_13 : run_read_says header marker slots n ≡ then (then (then (then (then c q9) q10) q11) q12) (then q13 (then q16 q18))
  said_13 = said_12 ∙ sym (then_then (then (then (then c q9) q10) q11) q12 (then q13 (then q16 q18)))

  said_16 : run_read_says header marker slots n ≡ then (then (then (then (then (then c q9) q10) q11) q12) q13) (then q16 q18)
  said_16 = said_13 ∙ sym (then_then (then (then (then (then c q9) q10) q11) q12) q13 (then q16 q18))

  said_18 : run_read_says header marker slots n ≡ then (then (then (then (then (then (then c q9) q10) q11) q12) q13) q16) q18
  said_18 = said_16 ∙ sym (then_then (then (then (then (then (then c q9) q10) q11) q12) q13) q16 q18)

  -- ---- each question is the test that the definitions have

  fine : Called → Fine p
  fine e = (ready header marker n (length slots) e).fine

  fits : Called → sent_count p * p.group ≤ 8 * length slots
  fits e = let long : length slots ≡ slot_bytes p = (ready header marker n (length slots) e).slots_are in omega arith

  stream_bits : Bits stream
  unfolding stream_in
  stream_bits = joined_bits f.rate (λ j. block_in f.rate (word_out p slots j))

  spare_yes : Called → q9 ≡ Done → SpareZero
  spare_yes e d = spare_told p.group (sent_count p) slots (fits e) (ask_done (spare_slots_empty p slots) 9 0 d)

  yes_spare : Called → SpareZero → q9 ≡ Done
  yes_spare e h = ask_yes (spare_slots_empty p slots) 9 0 (spare_tells p.group (sent_count p) slots (fits e) h)

  module _ where
    group_told : (s : ℕ) → s < count → decided_in p slots s ≡ true → Decided s
    group_told s l e = ltb-true (read s) p.order e

    group_tells : (s : ℕ) → s < count → Decided s → decided_in p slots s ≡ true
    group_tells s l h = lt-ltb (read s) p.order h

    groups_yes : q10 ≡ Done → AllYes count Decided
    unfolding first_undecided
    groups_yes = put_yes count (decided_in p slots) Decided group_told group_tells 10

    yes_groups : AllYes count Decided → q10 ≡ Done
    unfolding first_undecided
    yes_groups = yes_put count (decided_in p slots) Decided group_told group_tells 10

    groups_no : (s : ℕ) → q10 ≡ No 10 s → FirstNo count Decided s
    unfolding first_undecided
    groups_no = put_no count (decided_in p slots) Decided group_told group_tells 10

    no_groups : (s : ℕ) → FirstNo count Decided s → q10 ≡ No 10 s
    unfolding first_undecided
    no_groups = no_put count (decided_in p slots) Decided group_told group_tells 10

  module _ (called : Called) where
    some : 1 ≤ p.layout.symbols
    some = (bounds p (fine called)).symbols_least

    mark_yes : (s : ℕ) → s < count → mark_right p.layout p.marks read s ≡ true → MarkerRight s
    mark_yes s l e line w few at = mark_told p.layout some read p.marks s e line w few at ∙ lent called w few

    yes_mark : (s : ℕ) → s < count → MarkerRight s → mark_right p.layout p.marks read s ≡ true
    yes_mark s l h = mark_tells p.layout some read p.marks s (λ line w few at. h line w few at ∙ sym (lent called w few))

    marks_yes : q11 ≡ Done → AllYes count MarkerRight
    unfolding first_bad_mark
    marks_yes = put_yes count (mark_right p.layout p.marks read) MarkerRight mark_yes yes_mark 11

    yes_marks : AllYes count MarkerRight → q11 ≡ Done
    unfolding first_bad_mark
    yes_marks = yes_put count (mark_right p.layout p.marks read) MarkerRight mark_yes yes_mark 11

    marks_no : (s : ℕ) → q11 ≡ No 11 s → FirstNo count MarkerRight s
    unfolding first_bad_mark
    marks_no = put_no count (mark_right p.layout p.marks read) MarkerRight mark_yes yes_mark 11

    no_marks : (s : ℕ) → FirstNo count MarkerRight s → q11 ≡ No 11 s
    unfolding first_bad_mark
    no_marks = no_put count (mark_right p.layout p.marks read) MarkerRight mark_yes yes_mark 11

    rest_yes : (s : ℕ) → s < count → rest_zero p.layout read s ≡ true → UnhitZero s
    rest_yes s l e = rest_told p.layout some read s e

    yes_rest : (s : ℕ) → s < count → UnhitZero s → rest_zero p.layout read s ≡ true
    yes_rest s l h = rest_tells p.layout some read s h

    rests_yes : q12 ≡ Done → AllYes count UnhitZero
    unfolding first_bad_rest
    rests_yes = put_yes count (rest_zero p.layout read) UnhitZero rest_yes yes_rest 12

    yes_rests : AllYes count UnhitZero → q12 ≡ Done
    unfolding first_bad_rest
    yes_rests = yes_put count (rest_zero p.layout read) UnhitZero rest_yes yes_rest 12

    rests_no : (s : ℕ) → q12 ≡ No 12 s → FirstNo count UnhitZero s
    unfolding first_bad_rest
    rests_no = put_no count (rest_zero p.layout read) UnhitZero rest_yes yes_rest 12

    no_rests : (s : ℕ) → FirstNo count UnhitZero s → q12 ≡ No 12 s
    unfolding first_bad_rest
    no_rests = no_put count (rest_zero p.layout read) UnhitZero rest_yes yes_rest 12

  words_yes : q13 ≡ Done → AllYes (quantities.block_count f) WordGood
  unfolding words_say
  words_yes = all_done (quantities.block_count f) (run_word_says f (word_out p slots))

  yes_words : AllYes (quantities.block_count f) WordGood → q13 ≡ Done
  unfolding words_say
  yes_words = done_all (quantities.block_count f) (run_word_says f (word_out p slots))

  module _ where
    frame_yes : (j : ℕ) → j < f.frames → frame_marked f.size (stream_in f (word_out p slots)) j ≡ true → Marked j
    frame_yes j l e = frame_told f.size (stream_in f (word_out p slots)) stream_bits j e

    yes_frame : (j : ℕ) → j < f.frames → Marked j → frame_marked f.size (stream_in f (word_out p slots)) j ≡ true
    yes_frame j l h = frame_tells f.size (stream_in f (word_out p slots)) stream_bits j h

    frames_yes : q16 ≡ Done → AllYes f.frames Marked
    unfolding first_unmarked
    frames_yes = put_yes f.frames (frame_marked f.size (stream_in f (word_out p slots))) Marked frame_yes yes_frame 16

    yes_frames : AllYes f.frames Marked → q16 ≡ Done
    unfolding first_unmarked
    yes_frames = yes_put f.frames (frame_marked f.size (stream_in f (word_out p slots))) Marked frame_yes yes_frame 16

    frames_no : (s : ℕ) → q16 ≡ No 16 s → FirstNo f.frames Marked s
    unfolding first_unmarked
    frames_no = put_no f.frames (frame_marked f.size (stream_in f (word_out p slots))) Marked frame_yes yes_frame 16

    no_frames : (s : ℕ) → FirstNo f.frames Marked s → q16 ≡ No 16 s
    unfolding first_unmarked
    no_frames = no_put f.frames (frame_marked f.size (stream_in f (word_out p slots))) Marked frame_yes yes_frame 16

  -- ---- what was answered yes before each

  done_10 : then c q9 ≡ Done → Before10
  done_10 e = let d = then_done c q9 e in (d.0, spare_yes d.0 d.1)

  made_10 : Before10 → then c q9 ≡ Done
  made_10 h = rw h.0 (yes_spare h.0 h.1)

  done_11 : then (then c q9) q10 ≡ Done → Before11
  done_11 e = let d = then_done (then c q9) q10 e in (done_10 d.0, groups_yes d.1)

  made_11 : Before11 → then (then c q9) q10 ≡ Done
  made_11 h = rw (made_10 h.0) (yes_groups h.1)

  done_12 : then (then (then c q9) q10) q11 ≡ Done → Before12
  done_12 e =
      let d = then_done (then (then c q9) q10) q11 e in
      let b = done_11 d.0 in
      (b, marks_yes b.0.0 d.1)

  made_12 : Before12 → then (then (then c q9) q10) q11 ≡ Done
  made_12 h = rw (made_11 h.0) (yes_marks h.0.0.0 h.1)

  done_13 : then (then (then (then c q9) q10) q11) q12 ≡ Done → Before13
  done_13 e =
      let d = then_done (then (then (then c q9) q10) q11) q12 e in
      let b = done_12 d.0 in
      (b, rests_yes b.0.0.0 d.1)

  made_13 : Before13 → then (then (then (then c q9) q10) q11) q12 ≡ Done
  made_13 h = rw (made_12 h.0) (yes_rests h.0.0.0.0 h.1)

  done_16 : then (then (then (then (then c q9) q10) q11) q12) q13 ≡ Done → Before16
  done_16 e = let d = then_done (then (then (then (then c q9) q10) q11) q12) q13 e in (done_13 d.0, words_yes d.1)

  made_16 : Before16 → then (then (then (then (then c q9) q10) q11) q12) q13 ≡ Done
  made_16 h = rw (made_13 h.0) (yes_words h.1)

  done_18 : then (then (then (then (then (then c q9) q10) q11) q12) q13) q16 ≡ Done → Before18
  done_18 e = let d = then_done (then (then (then (then (then c q9) q10) q11) q12) q13) q16 e in (done_16 d.0, frames_yes d.1)

  made_18 : Before18 → then (then (then (then (then (then c q9) q10) q11) q12) q13) q16 ≡ Done
  made_18 h = rw (made_16 h.0) (yes_frames h.1)

  -- ---- and which numbers cannot come from there, nor from after

  no_c : (number : ℕ) → 9 ≤ number → (20 ≡ number → ⊥) → Never number c
  no_c number big other = call_never header marker n (length slots) number big other

  no_9 : (number : ℕ) → (9 ≡ number → ⊥) → Never number q9
  no_9 number other = never_ask number (spare_slots_empty p slots) 9 0 other

  no_10 : (number : ℕ) → (10 ≡ number → ⊥) → Never number q10
  no_10 number other = never_ask number (eqb (first_bad_symbol p slots) count) 10 (first_bad_symbol p slots) other

  no_11 : (number : ℕ) → (11 ≡ number → ⊥) → Never number q11
  no_11 number other = never_ask number (eqb (first_bad_mark p slots) count) 11 (first_bad_mark p slots) other

  no_12 : (number : ℕ) → (12 ≡ number → ⊥) → Never number q12
  no_12 number other = never_ask number (eqb (first_bad_rest p slots) count) 12 (first_bad_rest p slots) other

  no_13 : (number : ℕ) → 9 ≤ number → (number < 13) ⊎ (15 < number) → Never number q13
  no_13 number big off = words_never f (word_out p slots) number big off

  no_16 : (number : ℕ) → (16 ≡ number → ⊥) → Never number q16
  no_16 number other =
      never_ask number (eqb (first_unmarked f.size f.frames (stream_in f (word_out p slots))) f.frames) 16 (first_unmarked f.size f.frames (stream_in f (word_out p slots))) other

  no_18 : (number : ℕ) → (18 ≡ number → ⊥) → Never number q18
  no_18 number other = never_ask number (fill_zero f.size f.frames (quantities.block_count f * info_bits f.rate) (stream_in f (word_out p slots))) 18 0 other

  -- ---- the refusals

  -- what comes after 9, 10, 11, 12 and the words
  behind_13 : (number : ℕ) → (16 ≡ number → ⊥) → (18 ≡ number → ⊥) → Never number (then q16 q18)
  behind_13 number x16 x18 = never_then number q16 q18 (no_16 number x16) (no_18 number x18)

  behind_12 : (number : ℕ) → 9 ≤ number → number < 13 → Never number (then q13 (then q16 q18))
  behind_12 number big l = never_then number q13 _ (no_13 number big (inl l)) (behind_13 number (λ z. omega arith) (λ z. omega arith))

  behind_11 : (number : ℕ) → 9 ≤ number → number < 12 → Never number (then q12 (then q13 (then q16 q18)))
  behind_11 number big l = never_then number q12 _ (no_12 number (λ z. omega arith)) (behind_12 number big (omega arith))

  behind_10 : (number : ℕ) → 9 ≤ number → number < 11 → Never number (then q11 (then q12 (then q13 (then q16 q18))))
  behind_10 number big l = never_then number q11 _ (no_11 number (λ z. omega arith)) (behind_11 number big (omega arith))

  behind_9 : (number : ℕ) → 9 ≤ number → number < 10 → Never number (then q10 (then q11 (then q12 (then q13 (then q16 q18)))))
  behind_9 number big l = never_then number q10 _ (no_10 number (λ z. omega arith)) (behind_10 number big (omega arith))

  -- and before them
  before_10 : (number : ℕ) → 9 < number → number < 20 → Never number (then c q9)
  before_10 number big l = never_then number c q9 (no_c number (omega arith) (λ z. omega arith)) (no_9 number (λ z. omega arith))

  before_11 : (number : ℕ) → 10 < number → number < 20 → Never number (then (then c q9) q10)
  before_11 number big l = never_then number (then c q9) q10 (before_10 number (omega arith) l) (no_10 number (λ z. omega arith))

  before_12 : (number : ℕ) → 11 < number → number < 20 → Never number (then (then (then c q9) q10) q11)
  before_12 number big l = never_then number (then (then c q9) q10) q11 (before_11 number (omega arith) l) (no_11 number (λ z. omega arith))

  before_13 : (number : ℕ) → 12 < number → number < 20 → Never number (then (then (then (then c q9) q10) q11) q12)
  before_13 number big l = never_then number (then (then (then c q9) q10) q11) q12 (before_12 number (omega arith) l) (no_12 number (λ z. omega arith))

  before_16 : (number : ℕ) → 15 < number → number < 20 → Never number (then (then (then (then (then c q9) q10) q11) q12) q13)
  before_16 number big l = never_then number (then (then (then (then c q9) q10) q11) q12) q13 (before_13 number (omega arith) l) (no_13 number (omega arith) (inr big))

  before_18 : (number : ℕ) → 16 < number → number < 20 → Never number (then (then (then (then (then (then c q9) q10) q11) q12) q13) q16)
  before_18 number big l = never_then number (then (then (then (then (then c q9) q10) q11) q12) q13) q16 (before_16 number (omega arith) l) (no_16 number (λ z. omega arith))

  -- ---- the refusals

  pub exactly_9 : (s : ℕ)
      → (run_read_says header marker slots n ≡ No 9 s → Called × (SpareZero → ⊥) × (s ≡ 0))
      × (Called × (SpareZero → ⊥) × (s ≡ 0) → run_read_says header marker slots n ≡ No 9 s)
  exactly_9 s = (
    λ e.
        let d = among_others c q9 _ 9 s (no_c 9 (omega arith) (λ z. omega arith)) (behind_9 9 (omega arith) (omega arith)) (sym said_9 ∙ e) in
        let r = ask_refused (spare_slots_empty p slots) 9 0 9 s d.1 in
        (d.0, λ h. no_done (sym d.1 ∙ yes_spare d.0 h), sym r.2),
    λ h. said_9 ∙ others_done c q9 _ 9 s h.0
        (ask_no (spare_slots_empty p slots) 9 0 (not_yes (spare_slots_empty p slots) (λ e. h.1 (spare_yes h.0 (ask_yes (spare_slots_empty p slots) 9 0 e)))) ∙ ap (No 9) (sym h.2)),
  )

  pub exactly_10 : (s : ℕ)
      → (run_read_says header marker slots n ≡ No 10 s → Before10 × FirstNo count Decided s)
      × (Before10 × FirstNo count Decided s → run_read_says header marker slots n ≡ No 10 s)
  exactly_10 s = (
    λ e.
        let d = among_others (then c q9) q10 _ 10 s (before_10 10 (omega arith) (omega arith)) (behind_10 10 (omega arith) (omega arith)) (sym said_10 ∙ e) in
        (done_10 d.0, groups_no s d.1),
    λ h. said_10 ∙ others_done (then c q9) q10 _ 10 s (made_10 h.0) (no_groups s h.1),
  )

  pub exactly_11 : (s : ℕ)
      → (run_read_says header marker slots n ≡ No 11 s → Before11 × FirstNo count MarkerRight s)
      × (Before11 × FirstNo count MarkerRight s → run_read_says header marker slots n ≡ No 11 s)
  exactly_11 s = (
    λ e.
        let d = among_others (then (then c q9) q10) q11 _ 11 s (before_11 11 (omega arith) (omega arith)) (behind_11 11 (omega arith) (omega arith)) (sym said_11 ∙ e) in
        let b = done_11 d.0 in
        (b, marks_no b.0.0 s d.1),
    λ h. said_11 ∙ others_done (then (then c q9) q10) q11 _ 11 s (made_11 h.0) (no_marks h.0.0.0 s h.1),
  )

  pub exactly_12 : (s : ℕ)
      → (run_read_says header marker slots n ≡ No 12 s → Before12 × FirstNo count UnhitZero s)
      × (Before12 × FirstNo count UnhitZero s → run_read_says header marker slots n ≡ No 12 s)
  exactly_12 s = (
    λ e.
        let d = among_others (then (then (then c q9) q10) q11) q12 _ 12 s (before_12 12 (omega arith) (omega arith)) (behind_12 12 (omega arith) (omega arith)) (sym said_12 ∙ e) in
        let b = done_12 d.0 in
        (b, rests_no b.0.0.0 s d.1),
    λ h. said_12 ∙ others_done (then (then (then c q9) q10) q11) q12 _ 12 s (made_12 h.0) (no_rests h.0.0.0.0 s h.1),
  )

  -- 13 to 15, of the first word that is refused
  pub exactly_13 : (number j : ℕ) → 12 < number → number < 16
      → (run_read_says header marker slots n ≡ No number j → Before13 × FirstRefused (quantities.block_count f) (run_word_says f (word_out p slots)) number j)
      × (Before13 × FirstRefused (quantities.block_count f) (run_word_says f (word_out p slots)) number j → run_read_says header marker slots n ≡ No number j)
  unfolding words_say
  exactly_13 number j a b = (
    λ e.
        let d =
        among_others (then (then (then (then c q9) q10) q11) q12) q13 _ number j (before_13 number a (omega arith)) (behind_13 number (λ z. omega arith) (λ z. omega arith)) (sym said_13 ∙ e) in
        (done_13 d.0, order_no (quantities.block_count f) (run_word_says f (word_out p slots)) number j d.1),
    λ h. said_13 ∙ others_done (then (then (then (then c q9) q10) q11) q12) q13 _ number j (made_13 h.0)
        (no_order (quantities.block_count f) (run_word_says f (word_out p slots)) number j (omega arith) h.1),
  )

  pub exactly_16 : (j : ℕ)
      → (run_read_says header marker slots n ≡ No 16 j → Before16 × FirstNo f.frames Marked j)
      × (Before16 × FirstNo f.frames Marked j → run_read_says header marker slots n ≡ No 16 j)
  exactly_16 j = (
    λ e.
        let d =
        among_others (then (then (then (then (then c q9) q10) q11) q12) q13) q16 q18 16 j (before_16 16 (omega arith) (omega arith)) (no_18 16 (λ z. omega arith)) (sym said_16 ∙ e) in
        (done_16 d.0, frames_no j d.1),
    λ h. said_16 ∙ others_done (then (then (then (then (then c q9) q10) q11) q12) q13) q16 q18 16 j (made_16 h.0) (no_frames j h.1),
  )

  -- the fill after the frames: its test, once the header is known to be good
  module _ (called : Called) where
    end : ℕ
    end = quantities.block_count f * info_bits f.rate

    fill_fit : f.frames * span f.size ≤ end
    unfolding end
    fill_fit = fit f (ready header marker n (length slots) called).valid

    fill_yes : q18 ≡ Done → FillZero
    unfolding end
    fill_yes e = fill_told f.size (stream_in f (word_out p slots)) stream_bits f.frames end fill_fit (ask_done (fill_zero f.size f.frames end (stream_in f (word_out p slots))) 18 0 e)

    yes_fill : FillZero → q18 ≡ Done
    unfolding end
    yes_fill h =
        ask_yes (fill_zero f.size f.frames end (stream_in f (word_out p slots))) 18 0 (fill_tells f.size (stream_in f (word_out p slots)) stream_bits f.frames end fill_fit h)

  pub exactly_18 : (s : ℕ)
      → (run_read_says header marker slots n ≡ No 18 s → Before18 × (FillZero → ⊥) × (s ≡ 0))
      × (Before18 × (FillZero → ⊥) × (s ≡ 0) → run_read_says header marker slots n ≡ No 18 s)
  exactly_18 s =
      let test : Bool = fill_zero f.size f.frames (quantities.block_count f * info_bits f.rate) (stream_in f (word_out p slots)) in (
        λ e.
            let d = last_of (then (then (then (then (then (then c q9) q10) q11) q12) q13) q16) q18 18 s (before_18 18 (omega arith) (omega arith)) (sym said_18 ∙ e) in
            let b = done_18 d.0 in
            let r = ask_refused test 18 0 18 s d.1 in
            (b, λ h. no_done (sym d.1 ∙ yes_fill b.0.0.0.0.0.0 h), sym r.2),
        λ h. said_18 ∙ ap (λ (a : Answer). then a q18) (made_18 h.0)
            ∙ ask_no test 18 0 (not_yes test (λ e. h.1 (fill_yes h.0.0.0.0.0.0.0 (ask_yes test 18 0 e)))) ∙ ap (No 18) (sym h.2),
      )
