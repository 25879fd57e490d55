-- A run that begins at a slot of a capture is found there, and cut out it is the run.
use mathlib.Core.Path.{◌≡◌, refl, sym, ap, ap₂, ◌∙◌}
use mathlib.Core.List.{List}
use mathlib.Core.Logic.{⊎_elim}
use Prim.Native.Nat.{ℕ, ◌+◌, ◌*◌, ◌/◌, ◌≤◌, ◌<◌}
use native.Mathlib.Omega.{arith}
use native.Mathlib.Nat.{le_refl, mul-le-mul, le-div_iff_mul-le}
use lib.Arith.{digits_lt}
use lib.Dec.{eqb}
use lib.ListN.{length, get_or}
use Rattle.bits.specs.Basics.{bool}
use Rattle.bits.proofs.Laws.Choice.{lt_or_le}
use Rattle.bits.specs.Pack.{bit_at, cut}
use Rattle.bits.proofs.Laws.Pack.{bit_bytes, bytes_made, cut_in, cut_past}
use Rattle.answers.specs.Answer.{Done, ask}
use Rattle.answers.proofs.Laws.Answer.{then_done}
use Rattle.header.specs.Header.{fields_of}
use Rattle.header.specs.declared.Fields.{Fields}
use Rattle.header_sizes.specs.Quantities as quantities
use Rattle.header_sizes.proofs.Laws.Bounds.{lines_least}
use Rattle.header_questions.specs.Questions.{run_says}
use Rattle.parameters.specs.Parameters.{parameters_of}
use Rattle.header_questions.proofs.Laws.Marks.{run_good}
use Rattle.plan.specs.declared.Plan.{Plan}
use Rattle.plan.specs.Plan.{plan_of, plan_in, sent_count}
use Rattle.plan.specs.Inner.{slot_bytes}
use Rattle.plan.specs.Lengths.{run_lengths_right, call_says}
use Rattle.plan.proofs.Laws.Accepted.{Ready, ready}
use Rattle.channel.specs.Channel.{unit, layout_symbols}
use Rattle.pulses.proofs.Laws.Pulses.{slot_bits}
use Rattle.slots.specs.Writing.{run_slots}
use Rattle.slots.proofs.Laws.Slots.{length_slots, bytes_slots}
use Rattle.run.specs.Run.{word_at, run_of, run_write_says}
use Rattle.run.specs.Steps.{slot, step10}
use Rattle.run.proofs.Laws.Steps.{run_is, marker_is, slot_is, slot_none}
use Rattle.capture_search.specs.Search.{capture_most, first_fit, first_fit_from, find_says, find_from_says, MarkerAt}
use Rattle.capture_search.proofs.Laws.Theorems.{lent, found_from, earliest_found}
use Rattle.capture_cut.specs.Cut.{cut_of, cut_says, RunAt}
use Rattle.capture_cut.proofs.Laws.Cut.{are_lengths}

module _ (header marker frames : List ℕ) (n : ℕ) (e : run_write_says header marker frames n ≡ Done) where
  known : Ready header marker (length frames) n
  unfolding run_write_says
  known = ready header marker (length frames) n e

  said : run_says header marker ≡ Done
  unfolding run_write_says call_says
  said =
      (then_done (run_says header marker) (ask (run_lengths_right (fields_of header) (length marker) (length frames) n) 8 0) e).0

  -- the plan has the symbols and the slots of the header
  symbols_are : layout_symbols (plan_in header marker).layout ≡ quantities.symbol_count (fields_of header)
  unfolding plan_of parameters_of quantities.symbol_count quantities.layout_of
  symbols_are = refl

  slots_are : sent_count (plan_in header marker) * (plan_in header marker).group ≡ quantities.slot_count (fields_of header)
  unfolding plan_of parameters_of quantities.slot_count
  slots_are = ap₂ (λ (a g : ℕ). a * (fields_of header).copies * g) symbols_are (lent header marker said known.marker_is).group_is

  bytes_are : slot_bytes (plan_in header marker) ≡ quantities.slot_bytes (fields_of header)
  unfolding quantities.slot_bytes
  bytes_are = ap (λ (k : ℕ). (k + 7) / 8) slots_are

  -- each symbol is sent at least once
  some_copies : 1 ≤ (fields_of header).copies
  unfolding plan_of parameters_of
  some_copies = known.fine.copies_least

  -- the marker's slots are among them
  marker_in : ((fields_of header).markers ≤ quantities.symbol_count (fields_of header))
      × ((fields_of header).markers * quantities.slots_per_symbol (fields_of header) ≤ quantities.slot_count (fields_of header))
  unfolding quantities.slot_count quantities.symbol_count
  marker_in =
      let f : Fields = fields_of header in
      let w : f.markers ≤ quantities.symbols_per_word f + f.markers = omega arith in
      let few : 1 * f.markers ≤ quantities.line_count f * (quantities.symbols_per_word f + f.markers) = mul-le-mul (lines_least f known.valid) w in
      let less : f.markers ≤ quantities.line_count f * (quantities.symbols_per_word f + f.markers) = omega arith in
      let sent_in : f.markers * 1 ≤ quantities.line_count f * (quantities.symbols_per_word f + f.markers) * f.copies = mul-le-mul less some_copies in
      let in-slots : f.markers ≤ quantities.line_count f * (quantities.symbols_per_word f + f.markers) * f.copies = omega arith in
      (less, mul-le-mul in-slots (le_refl (quantities.slots_per_symbol f)))

  -- slot i of the run, spare ones included
  run_slot_lem : (i : ℕ) → i < 8 * slot_bytes (plan_in header marker) → bit_at (run_of header marker frames) i ≡ slot header marker frames i
  run_slot_lem i l =
      let p : Plan = plan_in header marker in
      ap (λ (xs : List ℕ). bit_at xs i) (run_is header marker frames)
      ∙ bit_bytes (slot_bytes p) (slot header marker frames) (slot_bits p.group (sent_count p) (λ u. step10 header marker frames (u / p.copies))) i l

  run_spare : (i : ℕ) → i < 8 * slot_bytes (plan_in header marker) → quantities.slot_count (fields_of header) ≤ i
      → bit_at (run_of header marker frames) i ≡ 0
  unfolding plan_of parameters_of
  run_spare i l h =
      let p : Plan = plan_in header marker in
      let k = lent header marker said known.marker_is in
      let g : 0 < p.group = let q = k.group_is in let some = k.group_some in omega arith in
      let past : sent_count p ≤ i / p.group = (le-div_iff_mul-le g).1 (let c = slots_are in omega arith) in
      run_slot_lem i l ∙ slot_none header marker frames i past

  -- where each is sent once, a run begins with its marker
  run_marker : (fields_of header).copies ≡ 1 → (w r : ℕ) → w < (fields_of header).markers → r < quantities.slots_per_symbol (fields_of header)
      → bit_at (run_of header marker frames) (w * quantities.slots_per_symbol (fields_of header) + r) ≡ bool (eqb r (get_or marker w 0))
  run_marker one w r lw lr =
      let p : Plan = plan_in header marker in
      let k = lent header marker said known.marker_is in
      let g : p.group ≡ quantities.slots_per_symbol (fields_of header) = k.group_is in
      let at : w * quantities.slots_per_symbol (fields_of header) + r < (fields_of header).markers * quantities.slots_per_symbol (fields_of header) =
      digits_lt lw lr in
      let room : w * quantities.slots_per_symbol (fields_of header) + r < 8 * slot_bytes p = let m = marker_in.1 in let c = slots_are in omega arith in
      let sym-in : w < layout_symbols p.layout = let m = marker_in.0 in let c = symbols_are in omega arith in
      let line : w ≡ 0 * unit p.layout + w = omega arith in
      let copy : w ≡ w * (fields_of header).copies + 0 = rw one (omega arith) in
      run_slot_lem (w * quantities.slots_per_symbol (fields_of header) + r) room
      ∙ ap₂ (λ (s n : ℕ). slot header marker frames (s * n + r)) copy (sym g)
      ∙ slot_is header marker frames w 0 r sym-in (omega arith) (rw g lr)
      ∙ ap (λ (q : ℕ). bool (eqb r q)) (ap (step10 header marker frames) line ∙ marker_is header marker frames 0 w (rw k.markers_are lw)
      ∙ k.marks_are w lw)

  module _ (b : List ℕ) (s : ℕ) (short : length b ≤ capture_most) (at : RunAt header marker frames b s) where
    -- its slots, cut out, are those that were written;
    pub run_cut : (cut_says header (length b) s n ≡ Done) × (cut_of (fields_of header) b s ≡ run_of header marker frames)
    unfolding cut_says cut_of run_of
    run_cut =
        let f : Fields = fields_of header in
        let p : Plan = plan_in header marker in
        let run : List ℕ = run_slots p (word_at f frames) in
        let good = (run_good header marker said).0 in
        let lengths = are_lengths f (length b) s n record { most = short; slots_are = known.slots_are ∙ bytes_are; inside = at.inside } in (
          rw (good, lengths) refl,
          sym (bytes_made (quantities.slot_bytes f) (cut (quantities.slot_count f) (λ i. bit_at b (s + i))) run
              (length_slots p (word_at f frames) ∙ bytes_are) (bytes_slots p (word_at f frames)) (λ i l.
              ⊎_elim
              (λ (h : i < quantities.slot_count f). sym (at.slot i h) ∙ sym (cut_in (quantities.slot_count f) (λ i. bit_at b (s + i)) i h))
              (λ (h : quantities.slot_count f ≤ i).
              run_spare i (rw bytes_are l) h ∙ sym (cut_past (quantities.slot_count f) (λ i. bit_at b (s + i)) i h))
              (lt_or_le i (quantities.slot_count f)))),
        )

    -- where each symbol is sent once, its marker stands where it begins,
    pub run_starts : (fields_of header).copies ≡ 1 → MarkerAt header marker b s
    run_starts one = record {
      inside = let m = marker_in.1 in let i = at.inside in omega arith;
      slot = λ w r lw lr.
          let l : w * quantities.slots_per_symbol (fields_of header) + r < (fields_of header).markers * quantities.slots_per_symbol (fields_of header) =
          digits_lt lw lr in
          at.slot (w * quantities.slots_per_symbol (fields_of header) + r) (let m = marker_in.1 in omega arith) ∙ run_marker one w r lw lr;
    }

    -- and where no marker stands before, from a slot on, the search from there finds it.
    pub run_found_from : (fields_of header).copies ≡ 1 → (from : ℕ) → from ≤ s → ((x : ℕ) → from ≤ x → x < s → MarkerAt header marker b x → ⊥)
        → (find_from_says header marker b from ≡ Done) × (first_fit_from (plan_in header marker) b from ≡ s)
    run_found_from one from a none = found_from header marker b from said known.marker_is short s a (run_starts one) none

    pub run_found : (fields_of header).copies ≡ 1 → ((x : ℕ) → x < s → MarkerAt header marker b x → ⊥) → (find_says header marker b ≡ Done) × (first_fit (plan_in header marker) b ≡ s)
    run_found one none = earliest_found header marker b said known.marker_is short s (run_starts one) none
