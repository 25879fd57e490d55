-- Each question is put where those before it are answered yes; the words are whole once all are.
use mathlib.Core.Path.{◌≡◌, sym, ◌∙◌}
use native.Mathlib.Omega.{arith}
use borrow.Author.Tests.{eqb-true, eqb-false}
use Rattle.channel.specs.Channel.{layout_symbols}
use Rattle.answers.proofs.Laws.Answer.{refused_as, refuses, ask_done}
use Rattle.pool.proofs.Laws.Pooled.{each_decided}
use Rattle.slots.proofs.Laws.Bounds.{bounds}
use Rattle.slots.proofs.Laws.Return.{say_group, clean_good}
use Rattle.slots.specs.Reading.{first_bad_symbol, first_bad_mark, first_bad_rest}
use Rattle.slots_places.proofs.Laws.Passing.{known_end}
use Rattle.slots_reader.proofs.Said.{say_spare, spare_is_empty, say_mark, say_rest}
use Rattle.slots_places.proofs.Laws.Taken.{took_start, took_words}
use Rattle.slots_reader.proofs.slots_say.Goals as goal

pub overflow_add-n : goal.overflow_add-n
overflow_add-n c = let k = bounds c.args.p c.requires.0.fine in omega arith

pub overflow_mul-end : goal.overflow_mul-end
overflow_mul-end c = let s = c in let k = bounds s.args.p s.requires.0.fine in let l = c.requires.0.long in omega arith

pub overflow_mul-n-2 : goal.overflow_mul-n-2
overflow_mul-n-2 c = let s = c in let k = bounds s.args.p s.requires.0.fine in let l = c.requires.0.long in omega arith

pub overflow_mul-n-3 : goal.overflow_mul-n-3
overflow_mul-n-3 c = let s = c in let k = bounds s.args.p s.requires.0.fine in let l = c.requires.0.long in omega arith

pub returns-in_err-ask-clause-value : goal.returns-in_err-ask-clause-value
returns-in_err-ask-clause-value c =
    let a = c.args in
    let o = c.first_one-spare in
    refused_as _ _ _ _ _ _ c.from_residual.ensures.1 c.in_err-ask.ensures (λ no. say_spare a.p a.b.now o.result o.ensures (eqb-false _ _ no))

pub find-found-requires : goal.find-found-requires
find-found-requires c =
    let s = c in
    (s.requires.0, took_start s.args.p s.requires.0.fine s.args.b.now s.args.words.now s.requires.1)

pub returns-then-found-n : goal.returns-then-found-n
returns-then-found-n c =
    let a = c.args in
    let o = c.first_one-spare in
    let spare = spare_is_empty a.p a.b.now o.result o.ensures (eqb-true _ _ (ask_done _ 9 0 (sym c.in_ok-ask.ensures))) in
    record { value = refuses _ _ _ _ c.at.ensures (say_group a.p a.b.now spare _ c.find-found.ensures.group_value c.if-found-n.true); j_after = tt }

pub first_bad_mark-mark-requires : goal.first_bad_mark-mark-requires
first_bad_mark-mark-requires c =
    let a = c.args in
    let h = c.requires.0 in
    record { fine = h.fine; long = h.long; passed = each_decided a.b.now a.p.copies a.p.group a.p.order (layout_symbols a.p.layout) (sym c.find-found.ensures.group_value ∙ c.if-found-n.false) }

pub returns-then-mark-n : goal.returns-then-mark-n
returns-then-mark-n c =
    let a = c.args in
    let o = c.first_one-spare in
    let spare = spare_is_empty a.p a.b.now o.result o.ensures (eqb-true _ _ (ask_done _ 9 0 (sym c.in_ok-ask.ensures))) in
    let groups : first_bad_symbol a.p a.b.now ≡ layout_symbols a.p.layout = sym c.find-found.ensures.group_value ∙ c.if-found-n.false in
    record { value = refuses _ _ _ _ c.at-then-mark-n.ensures (say_mark a.p a.b.now spare groups _ c.first_bad_mark-mark.ensures c.if-mark-n.true); j_after = tt }

pub returns-then-found-n-2 : goal.returns-then-found-n-2
returns-then-found-n-2 c =
    let a = c.args in
    let fine = c.requires.0.fine in
    let o = c.first_one-spare in
    let f = c.find-found in
    let spare = spare_is_empty a.p a.b.now o.result o.ensures (eqb-true _ _ (ask_done _ 9 0 (sym c.in_ok-ask.ensures))) in
    let groups : first_bad_symbol a.p a.b.now ≡ layout_symbols a.p.layout = sym f.ensures.group_value ∙ c.if-found-n.false in
    let marks : first_bad_mark a.p a.b.now ≡ layout_symbols a.p.layout = sym c.first_bad_mark-mark.ensures ∙ c.if-mark-n.false in
    record { value = refuses _ _ _ _ c.at-then-found-n-2.ensures (say_rest a.p a.b.now spare groups marks _ (known_end a.p fine a.b.now _ _ (f.ensures.known c.if-found-n.false)) c.if-found-n-2.true); j_after = tt }

pub returns : goal.returns
returns c =
    let a = c.args in
    let fine = c.requires.0.fine in
    let o = c.first_one-spare in
    let f = c.find-found in
    let known = f.ensures.known c.if-found-n.false in
    let spare = spare_is_empty a.p a.b.now o.result o.ensures (eqb-true _ _ (ask_done _ 9 0 (sym c.in_ok-ask.ensures))) in
    let groups : first_bad_symbol a.p a.b.now ≡ layout_symbols a.p.layout = sym f.ensures.group_value ∙ c.if-found-n.false in
    let marks : first_bad_mark a.p a.b.now ≡ layout_symbols a.p.layout = sym c.first_bad_mark-mark.ensures ∙ c.if-mark-n.false in
    let rest : first_bad_rest a.p a.b.now ≡ layout_symbols a.p.layout = sym (known_end a.p fine a.b.now _ _ known) ∙ c.if-found-n-2.false in
    record {
      value = sym (clean_good a.p a.b.now record { spare = spare; groups = groups; marks = marks; rest = rest });
      j_after = took_words a.p fine a.b.now f.new.words (λ k. omega (arith, c.type_inv.words k)) (known.took c.if-found-n-2.false);
    }
