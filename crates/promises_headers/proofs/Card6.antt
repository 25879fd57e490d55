-- The proofs of card 6.
use mathlib.Core.Path.{◌≡◌, refl, sym, ap, ap₂, ◌∙◌}
use mathlib.Core.Bool.{Bool, true}
use mathlib.Core.List.{List}
use Prim.Native.Nat.{ℕ, ◌-◌, ◌*◌, ◌/◌, ◌%◌}
use lib.Dec.{ltb, leb, eqb}
use lib.ListN.{length}
use borrow.Author.Tests.{ltb-true, leb-true, eqb-true, lt-ltb, le-leb, eq-eqb, ne_eqb}
use Rattle.bits.specs.Pack.{val, bit_at, bytes_of, cut}
use Rattle.bits.specs.Basics.{tab, both}
use Rattle.bits.proofs.Laws.Table.{both_true}
use Rattle.answers.specs.Answer.{Answer, Done, No, ask, then, after}
use Rattle.answers.proofs.Laws.Answer.{then_done, ask_done}
use Rattle.header.specs.Header.{field, fields_of, spare_of, old_spare_of, with_copies}
use Rattle.header.specs.declared.Fields.{Fields}
use Rattle.header_sizes.specs.Quantities.{symbols_per_word, interleaver_delay}
use Rattle.header_questions.specs.Questions.{question1, old_question1, question2, question3, question4, question5, question6, question7, copies_good, fields_say, form_says, header_says, old_says}
use Rattle.header_questions.proofs.Laws.InOrder.{asks_on}
use Rattle.header_convert.specs.Convert.{widened, narrowed, widen_says, narrow_says, ten_after, eight_after}
use Rattle.header_convert.proofs.Laws.Theorems as trips
use Rattle.promises_headers.proofs.HeaderBytes.{fields_in, ten_end_is, eight_end_is, factor_is, factor_seven, seven_factor}
use Rattle.promises_headers.specs.Card6.{Card6, byte, fields_from, ten_end, eight_end, ranges_asked, one_of_seven, Ranges, TenPass, EightPass, HeaderBytes, OtherCopies, FormAnswers, HeaderAnswers, OldAnswers, HeaderAccepted, OldAccepted, OldRefused, HeaderFields, TenBytes, WidenAsks, NarrowAsks, OtherFactor, ArchivedTrips, ValidTrips, ExampleWidened, ExampleNarrowed, RefusedWiden, RefusedNarrow}

pub header_fields : HeaderFields
unfolding fields_of field
header_fields header = refl

pub ten_bytes : TenBytes
unfolding question1 spare_of field
ten_bytes header = refl

pub header_bytes : HeaderBytes
header_bytes = fields_in

pub other_copies : OtherCopies
unfolding with_copies
other_copies copies f = refl

-- ---- the questions in figures

-- 1, of ten bytes or of eight, then the ranges, and what comes after them
asked : (one : Bool) (f : Fields) (rest : Answer) → then (then (ask one 1 0) (fields_say f)) rest ≡ then (ask one 1 0) (ranges_asked f rest)
unfolding question2 question3 question4 question5 question6 question7 symbols_per_word interleaver_delay
asked = asks_on

-- nothing after them
alone : (a : Answer) → then a Done ≡ a
alone Done = refl
alone (No number place) = refl

pub form_answers : FormAnswers
unfolding form_says question1
form_answers header bytes =
    sym (alone (form_says header))
    ∙ asked (question1 header) (fields_of header) Done
    ∙ ap₂ (λ (t : Bool) (f : Fields). then (ask (both (eqb (length header) 10) t) 1 0) (ranges_asked f Done)) (ten_end_is header bytes) (fields_in header bytes)

pub header_answers : HeaderAnswers
unfolding header_says form_says question1
header_answers header bytes =
    asked (question1 header) (fields_of header) (ask (copies_good (fields_of header).copies) 20 0)
    ∙ ap₂ (λ (t : Bool) (f : Fields). then (ask (both (eqb (length header) 10) t) 1 0) (ranges_asked f (ask (copies_good f.copies) 20 0))) (ten_end_is header bytes) (fields_in header bytes)
    ∙ ap (λ (t : Bool). then (ask (both (eqb (length header) 10) (ten_end header)) 1 0) (ranges_asked (fields_from header) (ask t 20 0))) (factor_is (fields_from header).copies)

pub old_answers : OldAnswers
unfolding old_says old_question1
old_answers old bytes =
    sym (alone (old_says old))
    ∙ asked (old_question1 old) (fields_of old) Done
    ∙ ap₂ (λ (t : Bool) (f : Fields). then (ask (both (eqb (length old) 8) t) 1 0) (ranges_asked f Done)) (eight_end_is old bytes) (fields_in old bytes)

-- ---- what passes, and what is after it

record Asked (f : Fields) (rest : Answer) : Type 0 where
  ranges : Ranges f
  behind : rest ≡ Done

asked_passed : (f : Fields) (rest : Answer) → ranges_asked f rest ≡ Done → Asked f rest
asked_passed f rest e =
    let r2 = then_done (ask (ltb f.rate 3) 2 0) _ e in
    let r3 = then_done (ask (both (leb 2 f.bits) (leb f.bits 8)) 3 0) _ r2.1 in
    let r4 = then_done (ask (both (both (leb 1 f.rows) (leb f.rows 128)) (both (leb 1 f.step) (leb f.step 256))) 4 0) _ r3.1 in
    let r5 = then_done (ask (eqb (f.rows * (f.rows - 1) * f.step % (15120 / f.bits)) 0) 5 0) _ r4.1 in
    let r6 = then_done (ask (both (both (leb 1 f.size) (leb f.size 2048)) (both (leb 1 f.frames) (leb f.frames 64))) 6 0) _ r5.1 in
    let r7 = then_done (ask (both (leb 1 f.markers) (leb f.markers 32)) 7 0) rest r6.1 in
    let m = both_true (leb 2 f.bits) (leb f.bits 8) (ask_done _ 3 0 r3.0) in
    let nb = both_true (both (leb 1 f.rows) (leb f.rows 128)) (both (leb 1 f.step) (leb f.step 256)) (ask_done _ 4 0 r4.0) in
    let n = both_true (leb 1 f.rows) (leb f.rows 128) nb.0 in
    let b = both_true (leb 1 f.step) (leb f.step 256) nb.1 in
    let sa = both_true (both (leb 1 f.size) (leb f.size 2048)) (both (leb 1 f.frames) (leb f.frames 64)) (ask_done _ 6 0 r6.0) in
    let s = both_true (leb 1 f.size) (leb f.size 2048) sa.0 in
    let a = both_true (leb 1 f.frames) (leb f.frames 64) sa.1 in
    let w = both_true (leb 1 f.markers) (leb f.markers 32) (ask_done _ 7 0 r7.0) in
    record {
      ranges = record {
        rate = ltb-true f.rate 3 (ask_done _ 2 0 r2.0);
        m_least = leb-true 2 f.bits m.0;
        m_most = leb-true f.bits 8 m.1;
        n_least = leb-true 1 f.rows n.0;
        n_most = leb-true f.rows 128 n.1;
        b_least = leb-true 1 f.step b.0;
        b_most = leb-true f.step 256 b.1;
        whole = eqb-true (f.rows * (f.rows - 1) * f.step % (15120 / f.bits)) 0 (ask_done _ 5 0 r5.0);
        f_least = leb-true 1 f.size s.0;
        f_most = leb-true f.size 2048 s.1;
        a_least = leb-true 1 f.frames a.0;
        a_most = leb-true f.frames 64 a.1;
        w_least = leb-true 1 f.markers w.0;
        w_most = leb-true f.markers 32 w.1;
      };
      behind = r7.1;
    }

passed_asked : (f : Fields) (rest : Answer) → Ranges f → ranges_asked f rest ≡ rest
passed_asked f rest r =
    rw (
      lt-ltb f.rate 3 r.rate,
      le-leb 2 f.bits r.m_least,
      le-leb f.bits 8 r.m_most,
      le-leb 1 f.rows r.n_least,
      le-leb f.rows 128 r.n_most,
      le-leb 1 f.step r.b_least,
      le-leb f.step 256 r.b_most,
      eq-eqb (f.rows * (f.rows - 1) * f.step % (15120 / f.bits)) 0 r.whole,
      le-leb 1 f.size r.f_least,
      le-leb f.size 2048 r.f_most,
      le-leb 1 f.frames r.a_least,
      le-leb f.frames 64 r.a_most,
      le-leb 1 f.markers r.w_least,
      le-leb f.markers 32 r.w_most,
    )
    refl

pub header_accepted : HeaderAccepted
header_accepted header bytes = (there, back)
  where
    factor : Bool
    factor = one_of_seven (fields_from header).copies

    there : header_says header ≡ Done → TenPass header
    there e =
        let r = then_done (ask (both (eqb (length header) 10) (ten_end header)) 1 0) _ (sym (header_answers header bytes) ∙ e) in
        let one = both_true (eqb (length header) 10) (ten_end header) (ask_done _ 1 0 r.0) in
        let z6 = both_true (eqb (byte header 6 % 4) 0) _ one.1 in
        let z7 = both_true (eqb (byte header 7) 0) _ z6.1 in
        let z8 = both_true (eqb (byte header 8) 0) (eqb (byte header 9) 0) z7.1 in
        let a = asked_passed (fields_from header) (ask factor 20 0) r.1 in
        record {
          long = eqb-true (length header) 10 one.0;
          zeros = (eqb-true (byte header 6 % 4) 0 z6.0, eqb-true (byte header 7) 0 z7.0, eqb-true (byte header 8) 0 z8.0, eqb-true (byte header 9) 0 z8.1);
          ranges = a.ranges;
          factor = factor_seven (fields_from header).copies (ask_done factor 20 0 a.behind);
        }

    back : TenPass header → header_says header ≡ Done
    back p =
        let f : factor ≡ true = seven_factor (fields_from header).copies p.factor in
        header_answers header bytes
        ∙ rw (eq-eqb (length header) 10 p.long, eq-eqb (byte header 6 % 4) 0 p.zeros.0, eq-eqb (byte header 7) 0 p.zeros.1, eq-eqb (byte header 8) 0 p.zeros.2, eq-eqb (byte header 9) 0 p.zeros.3)
        (passed_asked (fields_from header) (ask factor 20 0) p.ranges ∙ ap (λ (t : Bool). ask t 20 0) f)

pub old_accepted : OldAccepted
old_accepted old bytes = (there, back)
  where
    there : old_says old ≡ Done → EightPass old
    there e =
        let r = then_done (ask (both (eqb (length old) 8) (eight_end old)) 1 0) _ (sym (old_answers old bytes) ∙ e) in
        let one = both_true (eqb (length old) 8) (eight_end old) (ask_done _ 1 0 r.0) in
        let z = both_true (eqb (byte old 6) 0) (eqb (byte old 7) 0) one.1 in
        record {
          long = eqb-true (length old) 8 one.0;
          zeros = (eqb-true (byte old 6) 0 z.0, eqb-true (byte old 7) 0 z.1);
          ranges = (asked_passed (fields_from old) Done r.1).ranges;
        }

    back : EightPass old → old_says old ≡ Done
    back p =
        old_answers old bytes
        ∙ rw (eq-eqb (length old) 8 p.long, eq-eqb (byte old 6) 0 p.zeros.0, eq-eqb (byte old 7) 0 p.zeros.1) (passed_asked (fields_from old) Done p.ranges)

pub old_refused : OldRefused
unfolding widen_says
old_refused old n number place e = rw e refl

pub widen_asks : WidenAsks
unfolding widen_says old_says old_question1 old_spare_of field
widen_asks old n = asks_on (old_question1 old) (fields_of old) (ask (eqb n 10) 8 0)

pub narrow_asks : NarrowAsks
unfolding narrow_says
narrow_asks header n = refl

pub other_factor : OtherFactor
unfolding narrow_says
other_factor header e other = rw (e, ne_eqb (fields_of header).copies 1 other) refl

pub archived_trips : ArchivedTrips
archived_trips old ten eight b e long short =
    let there : widen_says old (length ten) ≡ Done = ap (widen_says old) long ∙ trips.old_widens old e in
    let wide : ten_after old ten ≡ widened old = ap (λ (a : Answer). after a (widened old) ten) there in
    let r = trips.widen_narrow old (length ten) b there in
    let back : narrow_says (widened old) (length eight) ≡ Done = ap (narrow_says (widened old)) short ∙ r.0 in (
      there,
      ap fields_of wide ∙ trips.wide_fields old,
      ap (λ (h : List ℕ). narrow_says h (length eight)) wide ∙ back,
      ap (λ (h : List ℕ). eight_after h eight) wide ∙ ap (λ (a : Answer). after a (narrowed (widened old)) eight) back ∙ r.1,
    )

pub valid_trips : ValidTrips
valid_trips header eight ten b e one short long =
    let there : narrow_says header (length eight) ≡ Done = ap (narrow_says header) short ∙ trips.once_narrows header e one in
    let narrow : eight_after header eight ≡ narrowed header = ap (λ (a : Answer). after a (narrowed header) eight) there in
    let r = trips.narrow_widen header (length eight) b there in
    let back : widen_says (narrowed header) (length ten) ≡ Done = ap (widen_says (narrowed header)) long ∙ r.0 in (
      there,
      ap fields_of narrow ∙ trips.narrow_fields header,
      ap (λ (h : List ℕ). widen_says h (length ten)) narrow ∙ back,
      ap (λ (h : List ℕ). ten_after h ten) narrow ∙ ap (λ (a : Answer). after a (widened (narrowed header)) ten) back ∙ r.1,
    )

pub example_widened : ExampleWidened
unfolding widened bytes_of tab val bit_at
example_widened = refl

pub example_narrowed : ExampleNarrowed
unfolding narrowed bytes_of tab val bit_at cut
example_narrowed = refl

pub refused_widen : RefusedWiden
refused_widen old ten number place e = ap (λ (a : Answer). after a (widened old) ten) e

pub refused_narrow : RefusedNarrow
refused_narrow header eight number place e = ap (λ (a : Answer). after a (narrowed header) eight) e

-- all of it
pub card_6 : Card6
card_6 = record {
  header_fields = header_fields;
  ten_bytes = ten_bytes;
  header_bytes = header_bytes;
  other_copies = other_copies;
  form_answers = form_answers;
  header_answers = header_answers;
  old_answers = old_answers;
  header_accepted = header_accepted;
  old_accepted = old_accepted;
  old_refused = old_refused;
  widen_asks = widen_asks;
  narrow_asks = narrow_asks;
  other_factor = other_factor;
  archived_trips = archived_trips;
  valid_trips = valid_trips;
  example_widened = example_widened;
  example_narrowed = example_narrowed;
  refused_widen = refused_widen;
  refused_narrow = refused_narrow;
}
