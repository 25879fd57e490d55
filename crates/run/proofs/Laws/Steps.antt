-- The steps and questions by name are the definitions that the calls cite.
use mathlib.Core.Path.{◌≡◌, refl, sym, ap, ◌∙◌}
use mathlib.Core.List.{List}
use Prim.Native.Nat.{ℕ, ◌+◌, ◌*◌, ◌/◌, ◌%◌, ◌≤◌, ◌<◌}
use native.Mathlib.Omega.{arith}
use native.Mathlib.Nat.{le_refl}
use lib.Arith.{digits_lt, digits_div}
use lib.Dec.{eqb}
use lib.ListN.{get_or, length}
use Rattle.bits.specs.Basics.{bool}
use Rattle.bits.specs.Pack.{val, bit_at, bytes_of}
use Rattle.answers.specs.Answer.{Answer, ask, then}
use Rattle.answers.proofs.Laws.Answer.{then_then}
use Rattle.sizes.specs.Sizes.{info_bits}
use Rattle.header.specs.Header.{fields_of}
use Rattle.header_sizes.specs.Quantities as quantities
use Rattle.header.specs.declared.Fields.{Fields}
use Rattle.header_questions.specs.Questions.{question1, question2, question3, question4, question5, question6, question7, question20, form_says, marks_good, run_says}
use Rattle.header_questions.proofs.Laws.InOrder.{asks_on}
use Rattle.parameters.specs.Parameters.{parameters_of}
use Rattle.plan.specs.declared.Plan.{Plan}
use Rattle.plan.specs.Lengths.{run_lengths_right, call_says}
use Rattle.plan.specs.Plan.{plan_of, plan_in, sent_count}
use Rattle.plan.specs.Inner.{slot_bytes}
use Rattle.stream_writer.proofs.Laws.Stream.{stream_bits, block_bit}
use Rattle.stream_reader.specs.Frames.{first_unmarked, fill_zero, frames_say}
use Rattle.channel.specs.Channel as channel
use Rattle.channel.proofs.Laws.Places.{hit_place, hit_none, placed_hit, placed_rest}
use Rattle.channel.proofs.Laws.Markers.{line_mark, line_place}
use Rattle.channel.specs.Channel.{total, unit, layout_symbols, place, hit_by}
use Rattle.pulses.specs.Pulses as pulses
use Rattle.pulses.proofs.Laws.Pulses.{slot_in, slot_past}
use Rattle.slots.specs.Writing.{sent_at, run_slots}
use Rattle.slots.specs.Reading.{spare_slots_empty, first_bad_symbol, first_bad_mark, first_bad_rest, word_out, slots_say}
use Rattle.run.specs.Run.{stream_of, word_at, run_of, stream_in, words_say, stream_says, buffer_says}
use Rattle.run.specs.Steps.{step1, block, word, step8, standing, step10, slot}

module _ (header marker frames : List ℕ) where
  -- step 9: the place of symbol t, the symbol that hits a place, and what stands there
  abbrev pub step9 : ℕ → ℕ
  step9 t = place (plan_in header marker).layout t

  abbrev pub hit : ℕ → ℕ
  hit x = hit_by (plan_in header marker).layout x

  -- a run is these slots, packed
  pub run_is : run_of header marker frames ≡ bytes_of (slot_bytes (plan_in header marker)) (slot header marker frames)
  unfolding run_of run_slots pulses.slots_of word_at stream_of
  run_is = refl

  -- ---- how each step's result is made of the one before

  -- the k bits of block j are the stream's, from bit j·k on
  pub block_is : (fields_of header).rate < 3 → (j i : ℕ) → i < info_bits (fields_of header).rate → bit_at ((block header marker frames) j) i ≡ (step1 header marker frames) (j * info_bits (fields_of header).rate + i)
  block_is h j i l = block_bit (fields_of header).rate (step1 header marker frames) h (stream_bits (fields_of header).size (fields_of header).frames frames) j i l

  -- symbol t is m bits of word t / S, the first bit highest
  pub symbol_is : (t : ℕ)
      → (step8 header marker frames) t ≡ val (λ i. bit_at ((word header marker frames) (t / (plan_in header marker).layout.symbols)) ((plan_in header marker).bits * (t % (plan_in header marker).layout.symbols) + i)) (plan_in header marker).bits
  unfolding channel.data_at
  symbol_is t = refl

  -- symbol t stands at its place, and 0 where no symbol's place is
  pub standing_is : (t : ℕ) → t < total (plan_in header marker).layout → (standing header marker frames) (step9 t) ≡ (step8 header marker frames) t
  standing_is t l =
      let p : Plan = plan_in header marker in
      let e : hit (step9 t) ≡ t = hit_place p.layout t l in
      placed_hit p.layout (step8 header marker frames) (step9 t) (rw e l) ∙ ap (step8 header marker frames) e

  pub standing_none : (x : ℕ) → ((t : ℕ) → t < total (plan_in header marker).layout → step9 t ≡ x → ⊥) → (standing header marker frames) x ≡ 0
  standing_none x none =
      let p : Plan = plan_in header marker in
      let e : hit x ≡ total p.layout = hit_none p.layout x none in
      placed_rest p.layout (step8 header marker frames) x (rw e (le_refl (total p.layout)))

  -- of every W + S symbols the first W are the marker symbols, and the others stand at S places in a row
  pub marker_is : (line w : ℕ) → w < (plan_in header marker).layout.markers → (step10 header marker frames) (line * unit (plan_in header marker).layout + w) ≡ get_or (plan_in header marker).marks w 0
  marker_is line w l = let p : Plan = plan_in header marker in line_mark p.layout p.marks (standing header marker frames) line w l

  pub place_is : (line k : ℕ) → k < (plan_in header marker).layout.symbols → (step10 header marker frames) (line * unit (plan_in header marker).layout + ((plan_in header marker).layout.markers + k)) ≡ (standing header marker frames) (line * (plan_in header marker).layout.symbols + k)
  place_is line k l = let p : Plan = plan_in header marker in line_place p.layout p.marks (standing header marker frames) line k l

  copies_are : (plan_in header marker).copies ≡ (fields_of header).copies
  unfolding plan_of parameters_of
  copies_are = refl

  -- slot r of copy c of symbol s has a pulse if it is the symbol, and there is none after the last copy
  pub slot_is : (s c r : ℕ) → s < layout_symbols (plan_in header marker).layout → c < (fields_of header).copies → r < (plan_in header marker).group
      → (slot header marker frames) ((s * (fields_of header).copies + c) * (plan_in header marker).group + r) ≡ bool (eqb r ((step10 header marker frames) s))
  slot_is s c r h k l =
      let p : Plan = plan_in header marker in
      let k' : c < p.copies = let e = copies_are in omega arith in
      ap (λ (n : ℕ). (slot header marker frames) ((s * n + c) * p.group + r)) (sym copies_are)
      ∙ slot_in p.group (sent_count p) (sent_at p (word header marker frames)) (s * p.copies + c) r l (digits_lt h k')
      ∙ ap (λ (u : ℕ). bool (eqb r ((step10 header marker frames) u))) (digits_div s k')

  pub slot_none : (x : ℕ) → layout_symbols (plan_in header marker).layout * (fields_of header).copies ≤ x / (plan_in header marker).group → (slot header marker frames) x ≡ 0
  slot_none x h =
      let p : Plan = plan_in header marker in
      let e : sent_count p ≡ layout_symbols p.layout * (fields_of header).copies = ap (λ (n : ℕ). layout_symbols p.layout * n) copies_are in
      slot_past p.group (sent_count p) (sent_at p (word header marker frames)) x (omega arith)

-- the reader's questions about slots of the right length, one after another; the first no is the answer
pub asked_in_order : (f : Fields) (p : Plan) (b : List ℕ)
    → buffer_says f p b
    ≡ then (ask (spare_slots_empty p b) 9 0)
    (then (ask (eqb (first_bad_symbol p b) (layout_symbols p.layout)) 10 (first_bad_symbol p b))
    (then (ask (eqb (first_bad_mark p b) (layout_symbols p.layout)) 11 (first_bad_mark p b))
    (then (ask (eqb (first_bad_rest p b) (layout_symbols p.layout)) 12 (first_bad_rest p b))
    (then (words_say f (word_out p b))
    (then (ask (eqb (first_unmarked f.size f.frames (stream_in f (word_out p b))) f.frames) 16 (first_unmarked f.size f.frames (stream_in f (word_out p b))))
    (ask (fill_zero f.size f.frames (quantities.block_count f * info_bits f.rate) (stream_in f (word_out p b))) 18 0))))))
unfolding buffer_says slots_say stream_says frames_say
asked_in_order f p b =
    flat (ask (spare_slots_empty p b) 9 0) (ask (eqb (first_bad_symbol p b) (layout_symbols p.layout)) 10 (first_bad_symbol p b)) (ask (eqb (first_bad_mark p b) (layout_symbols p.layout)) 11 (first_bad_mark p b))
    (ask (eqb (first_bad_rest p b) (layout_symbols p.layout)) 12 (first_bad_rest p b)) (then (words_say f (word_out p b)) (stream_says f (word_out p b)))
  where
    flat : (k l m n rest : Answer) → then (then k (then l (then m n))) rest ≡ then k (then l (then m (then n rest)))
    flat k l m n rest =
        then_then k (then l (then m n)) rest
        ∙ ap (then k) (then_then l (then m n) rest ∙ ap (then l) (then_then m n rest))

-- questions 1 to 7, 20 and 8, which both calls put first: 7 is asked of W, and then of the marker symbols
pub called_in_order : (header marker : List ℕ) (n s : ℕ)
    → call_says header marker n s
    ≡ then (ask (question1 header) 1 0)
    (then (ask (question2 (fields_of header)) 2 0)
    (then (ask (question3 (fields_of header)) 3 0)
    (then (ask (question4 (fields_of header)) 4 0)
    (then (ask (question5 (fields_of header)) 5 0)
    (then (ask (question6 (fields_of header)) 6 0)
    (then (ask (question7 (fields_of header)) 7 0)
    (then (ask (marks_good (fields_of header) marker) 7 0)
    (then (ask (question20 (fields_of header)) 20 0)
    (ask (run_lengths_right (fields_of header) (length marker) n s) 8 0)))))))))
unfolding call_says run_says form_says
called_in_order header marker n s =
    let f : Fields = fields_of header in
    let marks : Answer = ask (marks_good f marker) 7 0 in
    let factor : Answer = ask (question20 f) 20 0 in
    let lengths : Answer = ask (run_lengths_right f (length marker) n s) 8 0 in
    then_then (form_says header) (then marks factor) lengths ∙ ap (then (form_says header)) (then_then marks factor lengths)
    ∙ asks_on (question1 header) f (then marks (then factor lengths))
