-- The proofs of card 5.
use mathlib.Core.Path.{◌≡◌, refl, sym, ap, ◌∙◌}
use mathlib.Core.Bool.{Bool, true, false, ◌||◌}
use mathlib.Core.List.{List, [], ◌∷◌}
use mathlib.Core.Logic.{⊎_elim}
use Prim.Native.Nat.{ℕ, ◌*◌, ◌<◌}
use native.Mathlib.Omega.{arith}
use lib.Dec.{eqb}
use lib.ListN.{length}
use borrow.Author.Tests.{eq-eqb, ne_eqb}
use Rattle.bits.proofs.Laws.Choice.{eq_or_ne}
use Rattle.bits.proofs.Laws.Table.{true_false}
use Rattle.answers.specs.Answer.{Answer, Done, No, number_of, ask, then, among}
use Rattle.answers.proofs.Laws.Answer.{ask_refused, then_refused, among_ask, among_then, among_order}
use Rattle.sizes.specs.Sizes.{info_bits, block_bytes}
use Rattle.header.specs.Header.{fields_of, with_copies}
use Rattle.header.specs.declared.Fields.{Fields}
use Rattle.header_sizes.specs.Quantities.{pulse_order, symbols_per_word, marked_bits, block_count, interleaver_delay, sequence_length, line_count, symbol_count, slots_per_symbol, slot_count, slot_bytes}
use Rattle.header_questions.specs.Questions.{question1, question2, question3, question4, question5, question6, question7, question20, copies_good, marks_good, run_says}
use Rattle.parameters.specs.Parameters.{parameters_of}
use Rattle.plan.specs.declared.Plan.{Plan}
use Rattle.channel.specs.Channel as layouts
use Rattle.plan.specs.Plan.{plan_of, plan_in}
use Rattle.plan.specs.Inner.{Fine}
use Rattle.plan.specs.Lengths.{run_lengths_right, call_says}
use Rattle.plan.proofs.Laws.Accepted.{ready}
use Rattle.pulses.specs.Pulses as pulses
use Rattle.pulses.proofs.Laws.Groups.{Group, group_got, group_made}
use Rattle.pool.specs.Pooled.{count}
use Rattle.pool.proofs.Laws.Pooled as pool_laws
use Rattle.stream_reader.specs.Frames.{first_unmarked, fill_zero}
use Rattle.slots.proofs.Laws.Bounds.{Bounds, bounds}
use Rattle.slots.specs.Reading.{spare_slots_empty, pooled_in, first_bad_symbol, first_bad_mark, first_bad_rest, word_out, slots_say}
use Rattle.slots.proofs.Laws.Return.{pooled_once}
use Rattle.word.proofs.Laws.Exports as word_laws
use Rattle.run.specs.Run as runs
use Rattle.run.specs.Run.{run_word_says, run_read_says, run_write_says}
use Rattle.run.proofs.Laws.Return as run_laws
use Rattle.run.proofs.Laws.Steps as steps_laws
use Rattle.promises_runs.proofs.Accepted.{group_is, count_is}
use Rattle.promises_runs.proofs.Demand2.{run_written_read, run_there_and_back}
use Rattle.promises_runs.specs.Card5.{Card5, Factors, OtherFactors, RunFactorRefused, CopiesSent, NoneBehind, SentLengths, LargestSent, Counts, PooledIs, PooledOnly, PooledMost, OneCopy, OneCopyAsked, OnePulseExactly, PoolsToIs, RepeatedAccepted, RepeatedOnly, PooledPlace, RepeatedWrittenRead, RepeatedThereAndBack}

pub factors : Factors
unfolding copies_good
factors = refl

pub other_factors : OtherFactors
unfolding copies_good
other_factors = refl

pub run_factor_refused : RunFactorRefused
unfolding run_write_says run_read_says call_says run_says
run_factor_refused header marker frames slots n e marks bad = (rw (e, marks, bad) refl, rw (e, marks, bad) refl)

pub copies_sent : CopiesSent
copies_sent = steps_laws.slot_is

pub none_behind : NoneBehind
none_behind = steps_laws.slot_none

pub sent_lengths : SentLengths
unfolding with_copies slot_bytes slot_count slots_per_symbol pulse_order symbol_count line_count sequence_length block_count marked_bits symbols_per_word interleaver_delay info_bits
sent_lengths = refl

pub largest_sent : LargestSent
unfolding with_copies slot_bytes slot_count slots_per_symbol pulse_order symbol_count line_count sequence_length block_count marked_bits symbols_per_word interleaver_delay info_bits
largest_sent = (refl, refl)

pub counts : Counts
unfolding count
counts b copies group s r = refl

pub pooled_is : PooledIs
pooled_is b copies group order s q l h above = pool_laws.pooled_at b copies group order s q l record { small = h; rest = above }

pub pooled_only : PooledOnly
pooled_only b copies group order s big h = (pool_laws.pooled_got b copies group order s big h).rest

pub pooled_most : PooledMost
pooled_most = pool_laws.pooled_le

pub one_copy : OneCopy
one_copy = pool_laws.pooled_one

pub one_copy_asked : OneCopyAsked
one_copy_asked = pool_laws.undecided_one

-- ---- exactly one pulse

-- which numbers an answer's refusals have
abbrev Refuses : List ℕ → Answer → Type 0
Refuses ns a = (number place : ℕ) → a ≡ No number place → among ns number ≡ true

refuses_ask : (ns : List ℕ) (t : Bool) (number place : ℕ) → among ns number ≡ true → Refuses ns (ask t number place)
refuses_ask ns t number place e n p r = ap (among ns) (sym (ask_refused t number place n p r).1) ∙ e

refuses_then : (ns : List ℕ) (a b : Answer) → Refuses ns a → Refuses ns b → Refuses ns (then a b)
refuses_then ns a b ra rb n p r =
    ⊎_elim (λ (e : a ≡ No n p). ra n p e) (λ (e : (a ≡ Done) × (b ≡ No n p)). rb n p e.1) (then_refused a b n p r)

-- those before a symbol is looked at
abbrev early : List ℕ
early = 1 ∷ 2 ∷ 3 ∷ 4 ∷ 5 ∷ 6 ∷ 7 ∷ 8 ∷ 9 ∷ 20 ∷ []

call_refuses : (header marker : List ℕ) (k n : ℕ) → Refuses early (call_says header marker k n)
call_refuses header marker k n =
    let f : Fields = fields_of header in
    rw (steps_laws.called_in_order header marker k n)
    (refuses_then early _ _ (refuses_ask early (question1 header) 1 0 refl)
    (refuses_then early _ _ (refuses_ask early (question2 f) 2 0 refl)
    (refuses_then early _ _ (refuses_ask early (question3 f) 3 0 refl)
    (refuses_then early _ _ (refuses_ask early (question4 f) 4 0 refl)
    (refuses_then early _ _ (refuses_ask early (question5 f) 5 0 refl)
    (refuses_then early _ _ (refuses_ask early (question6 f) 6 0 refl)
    (refuses_then early _ _ (refuses_ask early (question7 f) 7 0 refl)
    (refuses_then early _ _ (refuses_ask early (marks_good f marker) 7 0 refl)
    (refuses_then early _ _ (refuses_ask early (question20 f) 20 0 refl)
    (refuses_ask early (run_lengths_right f (length marker) k n) 8 0 refl))))))))))

-- and those after question 10, none of which is 10
abbrev late : List ℕ
late = 0 ∷ 2 ∷ 8 ∷ 11 ∷ 12 ∷ 13 ∷ 14 ∷ 15 ∷ 16 ∷ 18 ∷ []

abbrev behind : Fields → Plan → List ℕ → Answer
behind f p slots =
    then (ask (eqb (first_bad_mark p slots) (layouts.layout_symbols p.layout)) 11 (first_bad_mark p slots))
    (then (ask (eqb (first_bad_rest p slots) (layouts.layout_symbols p.layout)) 12 (first_bad_rest p slots))
    (then (runs.words_say f (word_out p slots))
    (then (ask (eqb (first_unmarked f.size f.frames (runs.stream_in f (word_out p slots))) f.frames) 16 (first_unmarked f.size f.frames (runs.stream_in f (word_out p slots))))
    (ask (fill_zero f.size f.frames (block_count f * info_bits f.rate) (runs.stream_in f (word_out p slots))) 18 0))))

behind_numbers : (f : Fields) (p : Plan) (slots : List ℕ) → among late (number_of (behind f p slots)) ≡ true
unfolding runs.words_say run_word_says
behind_numbers f p slots =
    let word : ℕ → List ℕ = word_out p slots in
    let stream : ℕ → ℕ = runs.stream_in f word in
    let q11 : Answer = ask (eqb (first_bad_mark p slots) (layouts.layout_symbols p.layout)) 11 (first_bad_mark p slots) in
    let q12 : Answer = ask (eqb (first_bad_rest p slots) (layouts.layout_symbols p.layout)) 12 (first_bad_rest p slots) in
    let q13 : Answer = runs.words_say f word in
    let q16 : Answer = ask (eqb (first_unmarked f.size f.frames stream) f.frames) 16 (first_unmarked f.size f.frames stream) in
    let q18 : Answer = ask (fill_zero f.size f.frames (block_count f * info_bits f.rate) stream) 18 0 in
    among_then late q11 (then q12 (then q13 (then q16 q18))) (among_ask late (eqb (first_bad_mark p slots) (layouts.layout_symbols p.layout)) 11 (first_bad_mark p slots) refl refl)
    (among_then late q12 (then q13 (then q16 q18)) (among_ask late (eqb (first_bad_rest p slots) (layouts.layout_symbols p.layout)) 12 (first_bad_rest p slots) refl refl)
    (among_then late q13 (then q16 q18) (among_order late (block_count f) (run_word_says f word) refl (λ j. more (number_of (run_word_says f word j)) (word_laws.read_numbers f.rate (word j) (block_bytes f.rate))))
    (among_then late q16 q18 (among_ask late (eqb (first_unmarked f.size f.frames stream) f.frames) 16 (first_unmarked f.size f.frames stream) refl refl)
    (among_ask late (fill_zero f.size f.frames (block_count f * info_bits f.rate) stream) 18 0 refl refl))))
  where
    -- a word's numbers are among them
    more : (number : ℕ) → among (0 ∷ 2 ∷ 8 ∷ 13 ∷ 14 ∷ 15 ∷ []) number ≡ true → among late number ≡ true
    more number e =
        cases (eqb number 0) (eqb number 2) (eqb number 8) (eqb number 11) (eqb number 12) (eqb number 13) (eqb number 14) (eqb number 15) (eqb number 16 || (eqb number 18 || false)) e
      where
        cases : (a b c d e f g h rest : Bool) → a || (b || (c || (f || (g || (h || false))))) ≡ true
            → a || (b || (c || (d || (e || (f || (g || (h || rest))))))) ≡ true
        cases true b c d e f g h rest q = refl
        cases false true c d e f g h rest q = refl
        cases false false true d e f g h rest q = refl
        cases false false false true e f g h rest q = refl
        cases false false false false true f g h rest q = refl
        cases false false false false false true g h rest q = refl
        cases false false false false false false true h rest q = refl
        cases false false false false false false false true rest q = refl
        cases false false false false false false false false rest q = absurd (true_false false q refl)

module _ (header marker slots : List ℕ) (n : ℕ) (one : (fields_of header).copies ≡ 1)
    (passed : among early (number_of (run_read_says header marker slots n)) ≡ false) where
  abbrev f : Fields
  f = fields_of header

  abbrev p : Plan
  p = plan_in header marker

  -- 1 to 8 and 20 are answered yes, and 9
  called : call_says header marker n (length slots) ≡ Done
  unfolding run_read_says
  called = cases (call_says header marker n (length slots)) refl
    where
      cases : (a : Answer) → call_says header marker n (length slots) ≡ a → call_says header marker n (length slots) ≡ Done
      cases Done e = e
      cases (No number place) e =
          let said : run_read_says header marker slots n ≡ No number place = rw e refl in
          absurd (true_false (among early number) (call_refuses header marker n (length slots) number place e) (ap (λ (a : Answer). among early (number_of a)) (sym said) ∙ passed))

  spare : spare_slots_empty p slots ≡ true
  unfolding run_read_says runs.buffer_says slots_say
  spare = cases (spare_slots_empty p slots) refl
    where
      cases : (t : Bool) → spare_slots_empty p slots ≡ t → spare_slots_empty p slots ≡ true
      cases true e = e
      cases false e =
          let said : run_read_says header marker slots n ≡ No 9 0 = rw (called, e) refl in
          absurd (true_false (among early 9) refl (ap (λ (a : Answer). among early (number_of a)) (sym said) ∙ passed))

  -- so the answer is 10, or what comes after it
  asked_10 : run_read_says header marker slots n ≡ then (ask (eqb (first_bad_symbol p slots) (layouts.layout_symbols p.layout)) 10 (first_bad_symbol p slots)) (behind f p slots)
  unfolding run_read_says
  asked_10 = rw (called, steps_laws.asked_in_order f p slots, spare) refl

  fine : Fine p
  fine = (ready header marker n (length slots) called).fine

  wide : Bounds p
  wide = bounds p fine

  once : p.copies ≡ 1
  unfolding plan_of parameters_of
  once = one

  -- a group is decided if it has a pulse and no other
  group_decided : (s : ℕ) → pooled_in p slots s < p.order → Group slots p.order p.group (s * p.group) (pooled_in p slots s)
  group_decided s l =
      let e : pooled_in p slots s ≡ pulses.symbol_in p.order p.group slots s = pooled_once p fine once slots s in
      rw e (group_got p.order p.group wide.group_least slots s (rw (← e) l))

  decided_group : (s q : ℕ) → Group slots p.order p.group (s * p.group) q → pooled_in p slots s < p.order
  decided_group s q g =
      let e : pooled_in p slots s ≡ q = pooled_once p fine once slots s ∙ group_made p.order p.group wide.group_least slots s q g in
      rw e g.small

  no_10 : (number_of (run_read_says header marker slots n) ≡ 10 → ⊥) → first_bad_symbol p slots ≡ layouts.layout_symbols p.layout
  no_10 h =
      ⊎_elim
      (λ (e : first_bad_symbol p slots ≡ layouts.layout_symbols p.layout). e)
      (λ (e : first_bad_symbol p slots ≡ layouts.layout_symbols p.layout → ⊥). absurd (h (ap number_of asked_10 ∙ rw (ne_eqb (first_bad_symbol p slots) (layouts.layout_symbols p.layout) e) refl)))
      (eq_or_ne (first_bad_symbol p slots) (layouts.layout_symbols p.layout))

  all_good : first_bad_symbol p slots ≡ layouts.layout_symbols p.layout → number_of (run_read_says header marker slots n) ≡ 10 → ⊥
  all_good e ten =
      let said : run_read_says header marker slots n ≡ behind f p slots = asked_10 ∙ rw (eq-eqb (first_bad_symbol p slots) (layouts.layout_symbols p.layout) e) refl in
      true_false (among late 10) (ap (among late) (sym ten ∙ ap number_of said) ∙ behind_numbers f p slots) refl

pub one_pulse_exactly : OnePulseExactly
unfolding plan_of parameters_of pulse_order
one_pulse_exactly header marker slots n one passed M G eM eG =
    let p : Plan = plan_in header marker in
    let call = called header marker slots n one passed in
    let count : symbol_count (fields_of header) ≡ layouts.layout_symbols p.layout = sym (count_is header marker) in
    let g : G ≡ p.group = group_is header marker M G eM eG in (
      λ h s l.
          let small : pooled_in p slots s < p.order =
          pool_laws.each_decided slots p.copies p.group p.order (layouts.layout_symbols p.layout) (no_10 header marker slots n one passed h) s (rw (← count) l) in
          let group = group_decided header marker slots n one passed s small in
          (pooled_in p slots s, rw eM group.small, λ r k. rw g (group.slot r (rw (← g) k))),
      λ h. all_good header marker slots n one passed
          (pool_laws.all_decided slots p.copies p.group p.order (layouts.layout_symbols p.layout) (λ s l.
          let w = h s (rw count l) in
          decided_group header marker slots n one passed s w.0 record { small = rw (← eM) w.1; slot = λ r k. rw (← g) (w.2 r (rw g k)) })),
    )

pub pools_to_is : PoolsToIs
unfolding runs.word_at runs.stream_of
pools_to_is header marker slots frames n en = ((λ h s l. h s (omega (arith, en, l))), (λ h s l. h s (omega (arith, en, l))))

pub repeated_accepted : RepeatedAccepted
repeated_accepted = run_laws.pooled_read

pub repeated_only : RepeatedOnly
repeated_only = run_laws.read_pooled

pub pooled_place : PooledPlace
pooled_place = run_laws.undecided_place

pub repeated_written_read : RepeatedWrittenRead
repeated_written_read = run_written_read

pub repeated_there_and_back : RepeatedThereAndBack
repeated_there_and_back = run_there_and_back

-- all of it
pub card_5 : Card5
card_5 = record {
  factors = factors;
  other_factors = other_factors;
  run_factor_refused = run_factor_refused;
  copies_sent = copies_sent;
  none_behind = none_behind;
  sent_lengths = sent_lengths;
  largest_sent = largest_sent;
  counts = counts;
  pooled_is = pooled_is;
  pooled_only = pooled_only;
  pooled_most = pooled_most;
  one_copy = one_copy;
  one_copy_asked = one_copy_asked;
  one_pulse_exactly = one_pulse_exactly;
  pools_to_is = pools_to_is;
  repeated_accepted = repeated_accepted;
  repeated_only = repeated_only;
  pooled_place = pooled_place;
  repeated_written_read = repeated_written_read;
  repeated_there_and_back = repeated_there_and_back;
}
