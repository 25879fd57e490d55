-- The proofs of places: the laws of crate `run` in the header's figures.
use mathlib.Core.Path.{◌≡◌, refl, sym, ap, ◌∙◌}
use mathlib.Core.Bool.{Bool, true}
use mathlib.Core.List.{List}
use Prim.Native.Nat.{ℕ, ◌+◌, ◌*◌, ◌/◌, ◌<◌}
use native.Mathlib.Omega.{arith}
use lib.Dec.{ltb, leb, eqb}
use lib.ListN.{length, get_or}
use borrow.Author.Tests.{lt-ltb, ltb-true, le-leb, leb-true, eq-eqb, eqb-true}
use Rattle.bits.specs.Basics.{both, up_to}
use Rattle.bits.specs.Pack.{val, piece}
use Rattle.bits.proofs.Laws.Table.{both_true}
use Rattle.answers.specs.Answer.{Answer, Done, No, ask, then}
use Rattle.answers.proofs.Laws.Answer.{no_done, then_then, then_done, ask_done, ask_yes, ask_no, ask_refused}
use Rattle.sizes.specs.Sizes.{info_bits, block_bytes}
use Rattle.crc.specs.Check.{register}
use Rattle.convolution.specs.Code.{encode, decode}
use Rattle.word.specs.Word as words
use Rattle.word.specs.Word.{word_read_says}
use Rattle.word.proofs.Laws.Answers as word_laws
use Rattle.pass.specs.Pass as passes
use Rattle.pass.specs.Pass.{pass_read_says}
use Rattle.pass.proofs.Laws.Answers as pass_laws
use Rattle.header.specs.Header.{fields_of}
use Rattle.header_sizes.specs.Quantities as sizes
use Rattle.parameters.specs.Parameters.{parameters_of}
use Rattle.channel.specs.Channel as channel
use Rattle.plan.specs.Plan.{plan_of, plan_in}
use Rattle.plan.specs.Lengths.{call_says}
use Rattle.plan.proofs.Laws.Accepted.{ready}
use Rattle.pulses.specs.Pulses as pulses
use Rattle.pulses.proofs.Laws.Groups.{group_got, group_made}
use Rattle.slots.proofs.Laws.Bounds.{bounds}
use Rattle.slots.proofs.Laws.Return.{pooled_once}
use Rattle.stream_reader.specs.Frames.{joined}
use Rattle.slots.specs.Reading.{word_out}
use Rattle.run.specs.Run as runs
use Rattle.run.specs.Run.{run_word_says}
use Rattle.run.proofs.Laws.Places as run_laws
use Rattle.run.proofs.Laws.Refusals.{FirstNo, Never, never_ask, never_then, among_others, last_of, others_done, not_yes, put_yes, yes_put, put_no, no_put, order_no, no_order}
use Rattle.ldpc.specs.Code.{is_codeword}
use Rattle.uplink.specs.Uplink as uplinks
use Rattle.uplink.specs.Uplink.{uplink_read_says}
use Rattle.uplink.proofs.Laws.Uplink as uplink_laws
use Rattle.promises_runs.proofs.Accepted.{marks_are}
use Rattle.promises_uplink.proofs.Card14.{reader_asks, group_is_bit, codewords_exactly}
use Rattle.promises_runs.specs.Places.{Decided, OnePulse, WordAsked, CodedRight, Terminated, CheckRight, UplinkAsked, GroupRight, ParityRight, PlaceOf10, PlaceOf10Once, PlaceOf11, PlaceOf12, PlaceOf13To15, PlaceOf16, SpareIs9, FillIs18, WordPlaceOf13, WordIs14, WordIs15, PassPlace, PlaceOf28, PlaceOf29}

-- the marker symbols are those that were lent
lent : (header marker slots : List ℕ) (n : ℕ) → call_says header marker n (length slots) ≡ Done
    → (w : ℕ) → w < (plan_in header marker).layout.markers → get_or (plan_in header marker).marks w 0 ≡ get_or marker w 0
unfolding plan_of parameters_of sizes.layout_of
lent header marker slots n e w l = marks_are header marker n (length slots) e w l

pub place_of_10 : PlaceOf10
unfolding plan_of parameters_of sizes.layout_of sizes.pulse_order sizes.slots_per_symbol sizes.symbols_per_word sizes.symbol_count sizes.slot_count channel.place
place_of_10 header marker slots n p = run_laws.exactly_10 header marker slots n (λ w. get_or marker w 0) (lent header marker slots n) p

-- the same question in other words
first_same : (n p : ℕ) (Yes Same : ℕ → Type 0) → ((i : ℕ) → i < n → Yes i → Same i) → ((i : ℕ) → i < n → Same i → Yes i) → FirstNo n Yes p → FirstNo n Same p
first_same n p Yes Same to from (few, before, fails) = (few, λ i l. to i (omega arith) (before i l), λ y. fails (from p few y))

module _ (header marker slots : List ℕ) (n : ℕ) (one : (fields_of header).copies ≡ 1) (called : call_says header marker n (length slots) ≡ Done) where
  decided_pulse : (s : ℕ) → Decided (fields_of header) slots s → OnePulse (fields_of header) slots s
  unfolding plan_of parameters_of sizes.pulse_order sizes.slots_per_symbol
  decided_pulse s l =
      let p = plan_in header marker in
      let fine = (ready header marker n (length slots) called).fine in
      let e = pooled_once p fine one slots s in
      let g = group_got p.order p.group (bounds p fine).group_least slots s (rw (← e) l) in
      (pulses.symbol_in p.order p.group slots s, g.small, g.slot)

  pulse_decided : (s : ℕ) → OnePulse (fields_of header) slots s → Decided (fields_of header) slots s
  unfolding plan_of parameters_of sizes.pulse_order sizes.slots_per_symbol
  pulse_decided s (q, small, slot) =
      let p = plan_in header marker in
      let fine = (ready header marker n (length slots) called).fine in
      let e = pooled_once p fine one slots s ∙ group_made p.order p.group (bounds p fine).group_least slots s q record { small = small; slot = slot } in
      rw e small

pub place_of_10_once : PlaceOf10Once
place_of_10_once header marker slots n p one =
    let count : ℕ = sizes.symbol_count (fields_of header) in
    let told = place_of_10 header marker slots n p in (
      λ e.
          let d = told.0 e in (
            d.0,
            first_same count p (Decided (fields_of header) slots) (OnePulse (fields_of header) slots)
                (λ s l. decided_pulse header marker slots n one d.0.0 s) (λ s l. pulse_decided header marker slots n one d.0.0 s) d.1,
          ),
      λ h. told.1 (
        h.0,
        first_same count p (OnePulse (fields_of header) slots) (Decided (fields_of header) slots)
            (λ s l. pulse_decided header marker slots n one h.0.0 s) (λ s l. decided_pulse header marker slots n one h.0.0 s) h.1,
      ),
    )

pub place_of_11 : PlaceOf11
unfolding plan_of parameters_of sizes.layout_of sizes.pulse_order sizes.slots_per_symbol sizes.symbols_per_word sizes.symbol_count sizes.slot_count channel.place
place_of_11 header marker slots n p = run_laws.exactly_11 header marker slots n (λ w. get_or marker w 0) (lent header marker slots n) p

pub place_of_12 : PlaceOf12
unfolding plan_of parameters_of sizes.layout_of sizes.pulse_order sizes.slots_per_symbol sizes.symbols_per_word sizes.symbol_count sizes.slot_count channel.place
place_of_12 header marker slots n p = run_laws.exactly_12 header marker slots n (λ w. get_or marker w 0) (lent header marker slots n) p

pub place_of_13_to_15 : PlaceOf13To15
unfolding plan_of parameters_of sizes.layout_of sizes.pulse_order sizes.slots_per_symbol sizes.symbols_per_word sizes.symbol_count sizes.slot_count channel.place channel.symbol_of channel.word_from channel.word_bit word_out run_word_says runs.stream_in joined
place_of_13_to_15 header marker slots n number p least most = run_laws.exactly_13 header marker slots n (λ w. get_or marker w 0) (lent header marker slots n) number p (omega arith) (omega arith)

pub place_of_16 : PlaceOf16
unfolding plan_of parameters_of sizes.layout_of sizes.pulse_order sizes.slots_per_symbol sizes.symbols_per_word sizes.symbol_count sizes.slot_count channel.place channel.symbol_of channel.word_from channel.word_bit word_out run_word_says runs.stream_in joined
place_of_16 header marker slots n p = run_laws.exactly_16 header marker slots n (λ w. get_or marker w 0) (lent header marker slots n) p

pub spare_is_9 : SpareIs9
unfolding plan_of parameters_of sizes.layout_of sizes.pulse_order sizes.slots_per_symbol sizes.symbols_per_word sizes.symbol_count sizes.slot_count channel.place
spare_is_9 header marker slots n p = run_laws.exactly_9 header marker slots n (λ w. get_or marker w 0) (lent header marker slots n) p

pub fill_is_18 : FillIs18
unfolding plan_of parameters_of sizes.layout_of sizes.pulse_order sizes.slots_per_symbol sizes.symbols_per_word sizes.symbol_count sizes.slot_count channel.place channel.symbol_of channel.word_from channel.word_bit word_out run_word_says runs.stream_in joined
fill_is_18 header marker slots n p = run_laws.exactly_18 header marker slots n (λ w. get_or marker w 0) (lent header marker slots n) p

-- ---- words

module _ (rate : ℕ) (word : List ℕ) (n : ℕ) where
  x : ℕ → ℕ
  x = decode rate (words.coded_in word)

  abbrev k : ℕ
  k = info_bits rate

  -- the questions
  abbrev asked : Answer
  asked = then (ask (ltb rate 3) 2 0) (ask (both (eqb (length word) 1890) (eqb n (block_bytes rate))) 8 0)

  abbrev test : ℕ → Bool
  test j = eqb (words.coded_in word j) (encode rate x j)

  abbrev q13 : Answer
  q13 = ask (eqb (up_to test 0 15120) 15120) 13 (up_to test 0 15120)

  abbrev ends : Bool
  ends = both (eqb (x (k + 32)) 0) (eqb (x (k + 33)) 0)

  abbrev right : Bool
  right = eqb (val (λ i. x (k + i)) 32) (register x k)

  said : word_read_says rate word n ≡ then asked (then q13 (then (ask ends 14 0) (ask right 15 0)))
  unfolding x
  said =
      let o = word_laws.questions_opened rate word (decode rate (words.coded_in word)) refl in
      word_laws.read_asks rate word n
      ∙ rw (o.0, o.1, o.2) (sym (then_then (ask (ltb rate 3) 2 0) (ask (both (eqb (length word) 1890) (eqb n (block_bytes rate))) 8 0) _))

  asked_yes : asked ≡ Done → WordAsked rate word n
  asked_yes e =
      let d = then_done (ask (ltb rate 3) 2 0) _ e in
      let l = both_true (eqb (length word) 1890) (eqb n (block_bytes rate)) (ask_done _ 8 0 d.1) in
      (ltb-true rate 3 (ask_done (ltb rate 3) 2 0 d.0), eqb-true (length word) 1890 l.0, eqb-true n (block_bytes rate) l.1)

  yes_asked : WordAsked rate word n → asked ≡ Done
  yes_asked h = rw (lt-ltb rate 3 h.0, eq-eqb (length word) 1890 h.1, eq-eqb n (block_bytes rate) h.2) refl

  never_asked : (number : ℕ) → 8 < number → Never number asked
  never_asked number l =
      never_then number (ask (ltb rate 3) 2 0) (ask (both (eqb (length word) 1890) (eqb n (block_bytes rate))) 8 0)
      (never_ask number (ltb rate 3) 2 0 (λ z. omega arith)) (never_ask number (both (eqb (length word) 1890) (eqb n (block_bytes rate))) 8 0 (λ z. omega arith))

  coded_yes : (j : ℕ) → j < 15120 → test j ≡ true → CodedRight rate word j
  unfolding x
  coded_yes j l e = eqb-true (words.coded_in word j) (encode rate x j) e

  yes_coded : (j : ℕ) → j < 15120 → CodedRight rate word j → test j ≡ true
  unfolding x
  yes_coded j l e = eq-eqb (words.coded_in word j) (encode rate x j) e

  ends_yes : ends ≡ true → Terminated rate word
  unfolding x
  ends_yes e =
      let l = both_true (eqb (x (k + 32)) 0) (eqb (x (k + 33)) 0) e in
      (eqb-true (x (k + 32)) 0 l.0, eqb-true (x (k + 33)) 0 l.1)

  yes_ends : Terminated rate word → ends ≡ true
  unfolding x
  yes_ends h = rw (eq-eqb (x (k + 32)) 0 h.0, eq-eqb (x (k + 33)) 0 h.1) refl

  right_yes : right ≡ true → CheckRight rate word
  unfolding x
  right_yes e = eqb-true (val (λ i. x (k + i)) 32) (register x k) e

  yes_right : CheckRight rate word → right ≡ true
  unfolding x
  yes_right e = eq-eqb (val (λ i. x (k + i)) 32) (register x k) e

pub word_place_of_13 : WordPlaceOf13
word_place_of_13 rate word n p =
    let a : Answer = asked rate word n in
    let q : Answer = q13 rate word n in
    let b : Answer = then (ask (ends rate word n) 14 0) (ask (right rate word n) 15 0) in (
      λ e.
          let d = among_others a q b 13 p (never_asked rate word n 13 (omega arith))
          (never_then 13 (ask (ends rate word n) 14 0) (ask (right rate word n) 15 0) (never_ask 13 (ends rate word n) 14 0 (λ z. omega arith)) (never_ask 13 (right rate word n) 15 0 (λ z. omega arith)))
          (sym (said rate word n) ∙ e) in
          (asked_yes rate word n d.0, put_no 15120 (test rate word n) (CodedRight rate word) (coded_yes rate word n) (yes_coded rate word n) 13 p d.1),
      λ h. said rate word n ∙ others_done a q b 13 p (yes_asked rate word n h.0)
          (no_put 15120 (test rate word n) (CodedRight rate word) (coded_yes rate word n) (yes_coded rate word n) 13 p h.1),
    )

-- 14 and 15, with 13 among what is asked before
module _ (rate : ℕ) (word : List ℕ) (n : ℕ) where
  abbrev before : Answer
  before = then (asked rate word n) (q13 rate word n)

  said_14 : word_read_says rate word n ≡ then before (then (ask (ends rate word n) 14 0) (ask (right rate word n) 15 0))
  said_14 = said rate word n ∙ sym (then_then (asked rate word n) (q13 rate word n) _)

  before_yes : before ≡ Done → WordAsked rate word n × ((j : ℕ) → j < 15120 → CodedRight rate word j)
  before_yes e =
      let d = then_done (asked rate word n) (q13 rate word n) e in
      (asked_yes rate word n d.0, put_yes 15120 (test rate word n) (CodedRight rate word) (coded_yes rate word n) (yes_coded rate word n) 13 d.1)

  yes_before : WordAsked rate word n → ((j : ℕ) → j < 15120 → CodedRight rate word j) → before ≡ Done
  yes_before h c = rw (yes_asked rate word n h) (yes_put 15120 (test rate word n) (CodedRight rate word) (coded_yes rate word n) (yes_coded rate word n) 13 c)

  never_before : (number : ℕ) → 13 < number → Never number before
  never_before number l =
      never_then number (asked rate word n) (q13 rate word n) (never_asked rate word n number (omega arith))
      (never_ask number (eqb (up_to (test rate word n) 0 15120) 15120) 13 (up_to (test rate word n) 0 15120) (λ z. omega arith))

pub word_is_14 : WordIs14
word_is_14 rate word n p =
    let a : Answer = before rate word n in
    let t : Bool = ends rate word n in
    let b : Answer = ask (right rate word n) 15 0 in (
      λ e.
          let d = among_others a (ask t 14 0) b 14 p (never_before rate word n 14 (omega arith)) (never_ask 14 (right rate word n) 15 0 (λ z. omega arith)) (sym (said_14 rate word n) ∙ e) in
          let h = before_yes rate word n d.0 in
          let r = ask_refused t 14 0 14 p d.1 in
          (h.0, h.1, λ z. no_done (sym d.1 ∙ ask_yes t 14 0 (yes_ends rate word n z)), sym r.2),
      λ h. said_14 rate word n ∙ others_done a (ask t 14 0) b 14 p (yes_before rate word n h.0 h.1)
          (ask_no t 14 0 (not_yes t (λ e. h.2 (ends_yes rate word n e))) ∙ ap (No 14) (sym h.3)),
    )

pub word_is_15 : WordIs15
word_is_15 rate word n p =
    let a : Answer = before rate word n in
    let t : Bool = right rate word n in
    let q : Answer = ask (ends rate word n) 14 0 in
    let s : word_read_says rate word n ≡ then (then a q) (ask t 15 0) = said_14 rate word n ∙ sym (then_then a q (ask t 15 0)) in (
      λ e.
          let d = last_of (then a q) (ask t 15 0) 15 p
          (never_then 15 a q (never_before rate word n 15 (omega arith)) (never_ask 15 (ends rate word n) 14 0 (λ z. omega arith))) (sym s ∙ e) in
          let o = then_done a q d.0 in
          let h = before_yes rate word n o.0 in
          let r = ask_refused t 15 0 15 p d.1 in
          (h.0, h.1, ends_yes rate word n (ask_done (ends rate word n) 14 0 o.1), λ z. no_done (sym d.1 ∙ ask_yes t 15 0 (yes_right rate word n z)), sym r.2),
      λ h.
          let done : then a q ≡ Done = ap (λ (y : Answer). then y q) (yes_before rate word n h.0 h.1) ∙ ask_yes (ends rate word n) 14 0 (yes_ends rate word n h.2) in
          s ∙ ap (λ (y : Answer). then y (ask t 15 0)) done ∙ ask_no t 15 0 (not_yes t (λ e. h.3 (right_yes rate word n e))) ∙ ap (No 15) (sym h.4),
    )

-- ---- passes

pub pass_place : PassPlace
unfolding pass_read_says
pass_place rate slice m n number p en a b =
    let w : ℕ = passes.words_in slice in
    let say : ℕ → Answer = λ j. word_read_says rate (piece 1890 slice j) (block_bytes rate) in
    let t : Bool = passes.pass_lengths_right w (block_bytes rate) m (length slice) in (
      λ e.
          let d2 = last_of (ask (ltb rate 3) 2 0) _ number p (never_ask number (ltb rate 3) 2 0 (λ z. omega arith)) e in
          let d8 = last_of (ask t 8 0) _ number p (never_ask number t 8 0 (λ z. omega arith)) d2.1 in
          let r = pass_laws.right_said w (block_bytes rate) m (length slice) (ask_done t 8 0 d8.0) in
          rw en (
            ltb-true rate 3 (ask_done (ltb rate 3) 2 0 d2.0),
            r.some,
            r.few,
            r.blocks_are,
            r.words_are,
            order_no w say number p d8.1,
          ),
      λ (h, some, few, eb, ew, first).
          let same : w ≡ n = sym en in
          let yes : t ≡ true = pass_laws.right w (block_bytes rate) m (length slice) (rw same (record { some = some; few = few; blocks_are = eb; words_are = ew })) in
          rw (lt-ltb rate 3 h, yes) (no_order w say number p (omega arith) (rw same first)),
    )

-- ---- the uplink

module _ (slots : List ℕ) (m n : ℕ) (en : n ≡ length slots / 64) where
  abbrev fit : Bool
  fit = both (both (leb 1 n) (leb n 64)) (both (eqb m (8 * n)) (eqb (length slots) (64 * n)))

  abbrev q28 : Answer
  q28 = ask (eqb (up_to (uplinks.is_bit slots) 0 (128 * n)) (128 * n)) 28 (up_to (uplinks.is_bit slots) 0 (128 * n))

  abbrev coded : ℕ → Bool
  coded i = is_codeword (uplinks.received slots i)

  abbrev q29 : Answer
  q29 = ask (eqb (up_to coded 0 n) n) 29 (up_to coded 0 n)

  uplink_said : uplink_read_says slots m ≡ then (ask fit 8 0) (then q28 q29)
  uplink_said = reader_asks slots m n en

  fit_yes : ask fit 8 0 ≡ Done → UplinkAsked slots m n
  fit_yes e =
      let o = both_true (both (leb 1 n) (leb n 64)) (both (eqb m (8 * n)) (eqb (length slots) (64 * n))) (ask_done fit 8 0 e) in
      let l = both_true (leb 1 n) (leb n 64) o.0 in
      let r = both_true (eqb m (8 * n)) (eqb (length slots) (64 * n)) o.1 in
      (leb-true 1 n l.0, leb-true n 64 l.1, eqb-true m (8 * n) r.0, eqb-true (length slots) (64 * n) r.1)

  yes_fit : UplinkAsked slots m n → ask fit 8 0 ≡ Done
  yes_fit h = rw (le-leb 1 n h.0, le-leb n 64 h.1, eq-eqb m (8 * n) h.2, eq-eqb (length slots) (64 * n) h.3) refl

  group_yes : (g : ℕ) → g < 128 * n → uplinks.is_bit slots g ≡ true → GroupRight slots g
  group_yes g l e = (group_is_bit slots g).0 e

  yes_group : (g : ℕ) → g < 128 * n → GroupRight slots g → uplinks.is_bit slots g ≡ true
  yes_group g l h = (group_is_bit slots g).1 h

  parity_yes : (i : ℕ) → i < n → coded i ≡ true → ParityRight slots i
  parity_yes i l e = (codewords_exactly (uplinks.received slots i) (uplink_laws.received_bits slots i)).0 e

  yes_parity : (i : ℕ) → i < n → ParityRight slots i → coded i ≡ true
  yes_parity i l h = (codewords_exactly (uplinks.received slots i) (uplink_laws.received_bits slots i)).1 h

  refused_28 : (p : ℕ)
      → (uplink_read_says slots m ≡ No 28 p → UplinkAsked slots m n × FirstNo (128 * n) (GroupRight slots) p)
      × (UplinkAsked slots m n × FirstNo (128 * n) (GroupRight slots) p → uplink_read_says slots m ≡ No 28 p)
  refused_28 p = (
    λ e.
        let d = among_others (ask fit 8 0) q28 q29 28 p (never_ask 28 fit 8 0 (λ z. omega arith)) (never_ask 28 (eqb (up_to coded 0 n) n) 29 (up_to coded 0 n) (λ z. omega arith)) (sym uplink_said ∙ e) in
        (fit_yes d.0, put_no (128 * n) (uplinks.is_bit slots) (GroupRight slots) group_yes yes_group 28 p d.1),
    λ h. uplink_said ∙ others_done (ask fit 8 0) q28 q29 28 p (yes_fit h.0) (no_put (128 * n) (uplinks.is_bit slots) (GroupRight slots) group_yes yes_group 28 p h.1),
  )

  refused_29 : (p : ℕ)
      → (uplink_read_says slots m ≡ No 29 p → UplinkAsked slots m n × ((g : ℕ) → g < 128 * n → GroupRight slots g) × FirstNo n (ParityRight slots) p)
      × (UplinkAsked slots m n × ((g : ℕ) → g < 128 * n → GroupRight slots g) × FirstNo n (ParityRight slots) p → uplink_read_says slots m ≡ No 29 p)
  refused_29 p =
      let bits : Bool = eqb (up_to (uplinks.is_bit slots) 0 (128 * n)) (128 * n) in
      let s : uplink_read_says slots m ≡ then (then (ask fit 8 0) q28) q29 = uplink_said ∙ sym (then_then (ask fit 8 0) q28 q29) in (
        λ e.
            let d = last_of (then (ask fit 8 0) q28) q29 29 p
            (never_then 29 (ask fit 8 0) q28 (never_ask 29 fit 8 0 (λ z. omega arith)) (never_ask 29 bits 28 (up_to (uplinks.is_bit slots) 0 (128 * n)) (λ z. omega arith))) (sym s ∙ e) in
            let o = then_done (ask fit 8 0) q28 d.0 in
            (fit_yes o.0, put_yes (128 * n) (uplinks.is_bit slots) (GroupRight slots) group_yes yes_group 28 o.1, put_no n coded (ParityRight slots) parity_yes yes_parity 29 p d.1),
        λ h.
            let done : then (ask fit 8 0) q28 ≡ Done =
            ap (λ (y : Answer). then y q28) (yes_fit h.0) ∙ yes_put (128 * n) (uplinks.is_bit slots) (GroupRight slots) group_yes yes_group 28 h.1 in
            s ∙ ap (λ (y : Answer). then y q29) done ∙ no_put n coded (ParityRight slots) parity_yes yes_parity 29 p h.2,
      )

pub place_of_28 : PlaceOf28
place_of_28 slots m n p en = refused_28 slots m n en p

pub place_of_29 : PlaceOf29
place_of_29 slots m n p en = refused_29 slots m n en p
