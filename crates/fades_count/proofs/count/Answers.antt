-- The questions in their order; then the counts, which the walk leaves where all were 0.
use mathlib.Core.Path.{◌≡◌, refl, sym, ap, ◌∙◌}
use mathlib.Core.Bool.{Bool}
use mathlib.Core.List.{List}
use Prim.Native.Nat.{ℕ}
use native.Mathlib.Omega.{arith}
use lib.Dec.{eqb}
use lib.ListN.{length, replicate, get_or-replicate}
use borrow.Author.Tests.{eqb-true}
use Rattle.answers.specs.Answer.{Done}
use Rattle.answers.proofs.Laws.Answer.{left, stops, goes_on, stops_at, goes_past, says_last, ask_done}
use Rattle.header.specs.Header.{fields_of}
use Rattle.header_sizes.specs.Quantities.{block_count, symbol_count, layout_of}
use Rattle.header_questions.specs.Questions.{header_says}
use Rattle.header_questions.proofs.Laws.Good.{header_good}
use Rattle.channel.specs.Channel as channel
use Rattle.channel.specs.declared.Layout.{Layout}
use Rattle.fades.specs.Fades.{list_good, counts_of, fades_say}
use Rattle.fades.specs.Inner.{Small}
use Rattle.fades.proofs.Laws.Fades.{valid_small}
use Rattle.fades_count.proofs.count.Goals as goal

module _ (header fades : List ℕ) (n : ℕ) (done : Done ≡ header_says header) (g : Layout) (eg : g ≡ layout_of (fields_of header)) where
  words_are : g.words ≡ block_count (fields_of header)
  unfolding layout_of
  words_are = ap (λ (x : Layout). x.words) eg

  count_is : channel.layout_symbols g ≡ symbol_count (fields_of header)
  unfolding layout_of symbol_count
  count_is = ap (λ (x : Layout). channel.layout_symbols x) eg

  small-run : Small g
  small-run = rw eg (valid_small (fields_of header) (header_good header (sym done)).valid)

  words-asked : (said : Bool) → said ≡ eqb n g.words → said ≡ eqb n (block_count (fields_of header))
  words-asked said e = e ∙ ap (eqb n) words_are

  list-asked : (said : Bool) → said ≡ list_good (channel.layout_symbols g) fades → said ≡ list_good (symbol_count (fields_of header)) fades
  list-asked said e = e ∙ ap (λ (k : ℕ). list_good k fades) count_is

pub returns-in_err-header_says-clause-value : goal.returns-in_err-header_says-clause-value
unfolding fades_say
returns-in_err-header_says-clause-value c = stops _ _ _ _ c.from_residual.ensures.1 c.in_err-header_says.ensures

pub read-requires : goal.read-requires
read-requires c = let l = (header_good c.args.header.now (sym c.in_ok-header_says.ensures)).long in omega arith

pub layout_of-g-requires : goal.layout_of-g-requires
layout_of-g-requires c = rw c.read.ensures (header_good c.args.header.now (sym c.in_ok-header_says.ensures)).valid

pub returns-in_err-ask-clause-value : goal.returns-in_err-ask-clause-value
unfolding fades_say
returns-in_err-ask-clause-value c =
    let a = c.args in
    let g = c.layout_of-g in
    goes_on _ _ _ c.in_ok-header_says.ensures
    (stops_at _ _ _ _ _ _ _ c.from_residual-in_err-ask.ensures.1 c.in_err-ask.ensures
    (words-asked a.header.now a.fades.now (length a.counts.now) c.in_ok-header_says.ensures g.result (g.ensures ∙ ap layout_of c.read.ensures) _ refl))

pub overflow_add-g : goal.overflow_add-g
overflow_add-g c =
    let a = c.args in
    let g = c.layout_of-g in
    let small = small-run a.header.now a.fades.now 0 c.in_ok-header_says.ensures g.result (g.ensures ∙ ap layout_of c.read.ensures) in
    omega arith

pub overflow_mul-g : goal.overflow_mul-g
overflow_mul-g c =
    let a = c.args in
    let g = c.layout_of-g in
    let small = small-run a.header.now a.fades.now 0 c.in_ok-header_says.ensures g.result (g.ensures ∙ ap layout_of c.read.ensures) in
    omega arith

pub returns-in_err-ask-2-clause-value : goal.returns-in_err-ask-2-clause-value
unfolding fades_say
returns-in_err-ask-2-clause-value c =
    let a = c.args in
    let g = c.layout_of-g in
    let done = c.in_ok-header_says.ensures in
    let eg : g.result ≡ layout_of (fields_of a.header.now) = g.ensures ∙ ap layout_of c.read.ensures in
    goes_on _ _ _ done
    (goes_past _ _ _ _ _ _ c.in_ok-ask.ensures (words-asked a.header.now a.fades.now (length a.counts.now) done g.result eg _ refl)
    (says_last _ _ _ _ _ (left _ _ c.from_residual-in_err-ask-2.ensures.1 ∙ c.in_err-ask-2.ensures) (list-asked a.header.now a.fades.now 0 done g.result eg _ c.good-good.ensures)))

pub walk-requires : goal.walk-requires
walk-requires c =
    let a = c.args in
    let g = c.layout_of-g in
    let done = c.in_ok-header_says.ensures in
    let long : length a.counts.now ≡ g.result.words = eqb-true _ _ (ask_done _ 8 0 (sym c.in_ok-ask.ensures)) in
    let zeros : c.fill.new.self ≡ replicate (length a.counts.now) 0 = c.fill.ensures.after (λ y e. e) in
    record {
      small = small-run a.header.now a.fades.now 0 done g.result (g.ensures ∙ ap layout_of c.read.ensures);
      list = sym c.good-good.ensures ∙ ask_done c.good-good.result 22 0 (sym c.in_ok-ask-2.ensures);
      long = c.fill.ensures.len ∙ long;
      zeros = λ j l. rw zeros (get_or-replicate (length a.counts.now) j 0 0 (omega arith));
    }

pub returns-clause-value : goal.returns-clause-value
unfolding fades_say
returns-clause-value c =
    let a = c.args in
    let g = c.layout_of-g in
    let done = c.in_ok-header_says.ensures in
    let eg : g.result ≡ layout_of (fields_of a.header.now) = g.ensures ∙ ap layout_of c.read.ensures in
    goes_on _ _ _ done
    (goes_past _ _ _ _ _ _ c.in_ok-ask.ensures (words-asked a.header.now a.fades.now (length a.counts.now) done g.result eg _ refl)
    (says_last _ _ _ _ _ c.in_ok-ask-2.ensures (list-asked a.header.now a.fades.now 0 done g.result eg _ c.good-good.ensures)))

pub returns-clause-counts_after : goal.returns-clause-counts_after
returns-clause-counts_after c =
    c.walk.ensures ∙ ap (λ (x : Layout). counts_of x c.args.fades.now) (c.layout_of-g.ensures ∙ ap layout_of c.read.ensures)
