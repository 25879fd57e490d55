-- Questions 1 to 7 and 20 of the header, then 8, then the slots.
use mathlib.Core.Path.{◌≡◌, sym, ap, ap₂, ◌∙◌}
use mathlib.Core.Bool.{Bool, true}
use mathlib.Core.List.{List}
use Prim.Native.Nat.{ℕ, ◌+◌, ◌/◌, ◌≤◌}
use native.Mathlib.Omega.{arith}
use lib.ListN.{length}
use Rattle.bits.specs.Pack.{bit_at, bytes_of, cut}
use Rattle.answers.specs.Answer.{Done}
use Rattle.answers.proofs.Laws.Answer.{left, stops, goes_on, says_last, ask_done}
use Rattle.header.specs.Header.{fields_of}
use Rattle.header.specs.declared.Fields.{Fields}
use Rattle.header_sizes.specs.Quantities.{slot_count, slot_bytes}
use Rattle.header_sizes.specs.Inner.{Valid}
use Rattle.header_questions.specs.Questions.{header_says}
use Rattle.header_questions.proofs.Laws.Good.{header_good, copies_range}
use Rattle.capture_cut.specs.Cut.{cut_of, cut_lengths_right, cut_says}
use Rattle.capture_cut.specs.Inner.{Lies}
use Rattle.capture_cut.proofs.Bytes.{slots_some}
use Rattle.capture_cut.proofs.Lengths.{lengths_are}
use Rattle.capture_cut.proofs.cut_out.Goals as goal

-- what was asked of the header
good : (header : List ℕ) → header_says header ≡ Done → (f : Fields) → f ≡ fields_of header → (Valid f × (f.copies ≤ 32)) × (1 ≤ f.copies)
good header e f ef =
    let g = header_good header e in
    let k = copies_range (fields_of header).copies g.copies in
    rw ef ((g.valid, k.1), k.0)

-- what the lengths say
lies : (f : Fields) (b : List ℕ) (s m count : ℕ) → Valid f → 1 ≤ f.copies → cut_lengths_right f (length b) s m ≡ true → count ≡ slot_count f → Lies b s count m
unfolding slot_bytes
lies f b s m count v k t e =
    let r = lengths_are f (length b) s m t in
    record {
      most = r.most;
      some = let z = slots_some f v k in omega arith;
      inside = let i = r.inside in omega arith;
      room = r.slots_are ∙ ap (λ (n : ℕ). (n + 7) / 8) (sym e);
    }

cut-made : (g f : Fields) (b : List ℕ) (s m count : ℕ) → f ≡ g → cut_lengths_right f (length b) s m ≡ true → count ≡ slot_count f
    → bytes_of m (cut count (λ i. bit_at b (s + i))) ≡ cut_of g b s
unfolding cut_of
cut-made g f b s m count ef t e =
    let r = lengths_are f (length b) s m t in
    ap₂ (λ (k n : ℕ). bytes_of k (cut n (λ i. bit_at b (s + i)))) r.slots_are e ∙ ap (λ (h : Fields). cut_of h b s) ef

asked : (g f : Fields) → f ≡ g → (n s m : ℕ) (said : Bool) → said ≡ cut_lengths_right f n s m → said ≡ cut_lengths_right g n s m
asked g f ef n s m said e = e ∙ ap (λ (h : Fields). cut_lengths_right h n s m) ef

pub returns-in_err-header_says-clause-value : goal.returns-in_err-header_says-clause-value
unfolding cut_says
returns-in_err-header_says-clause-value c = stops _ _ _ _ c.from_residual.ensures.1 c.in_err-header_says.ensures

pub read-f-requires : goal.read-f-requires
read-f-requires c = let l = (header_good c.args.header.now (sym c.in_ok-header_says.ensures)).long in omega arith

pub cut_lengths_right-lengths-requires : goal.cut_lengths_right-lengths-requires
cut_lengths_right-lengths-requires c = (good c.args.header.now (sym c.in_ok-header_says.ensures) c.read-f.result c.read-f.ensures).0

pub returns-in_err-ask-clause-value : goal.returns-in_err-ask-clause-value
unfolding cut_says
returns-in_err-ask-clause-value c =
    goes_on _ _ _ c.in_ok-header_says.ensures
    (says_last _ _ _ _ _ (left _ _ c.from_residual-in_err-ask.ensures.1 ∙ c.in_err-ask.ensures)
    (asked _ _ c.read-f.ensures _ _ _ _ c.cut_lengths_right-lengths.ensures))

pub slot_count-requires : goal.slot_count-requires
slot_count-requires c = (good c.args.header.now (sym c.in_ok-header_says.ensures) c.read-f.result c.read-f.ensures).0

pub take-requires : goal.take-requires
take-requires c =
    let a = c.args in
    let l = c.cut_lengths_right-lengths in
    let f = c.read-f in
    let g = good a.header.now (sym c.in_ok-header_says.ensures) f.result f.ensures in
    lies f.result a.capture.now a.slot (length a.slots.now) c.slot_count.result g.0.0 g.1
    (sym l.ensures ∙ ask_done l.result 8 0 (sym c.in_ok-ask.ensures)) c.slot_count.ensures

pub returns-clause-value : goal.returns-clause-value
unfolding cut_says
returns-clause-value c =
    goes_on _ _ _ c.in_ok-header_says.ensures
    (says_last _ _ _ _ _ c.in_ok-ask.ensures (asked _ _ c.read-f.ensures _ _ _ _ c.cut_lengths_right-lengths.ensures))

pub returns-clause-slots_after : goal.returns-clause-slots_after
returns-clause-slots_after c =
    let a = c.args in
    let l = c.cut_lengths_right-lengths in
    let f = c.read-f in
    c.take.ensures ∙ cut-made (fields_of a.header.now) f.result a.capture.now a.slot (length a.slots.now) c.slot_count.result f.ensures
    (sym l.ensures ∙ ask_done l.result 8 0 (sym c.in_ok-ask.ensures)) c.slot_count.ensures
