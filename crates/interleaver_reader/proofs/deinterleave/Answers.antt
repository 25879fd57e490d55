-- `deinterleave` meets its contract: the planes hold seven bits of the word in a number, and the columns take them to the coded bits.
use mathlib.Core.Path.{◌∙◌}
use Rattle.bits.proofs.Laws.Table.{tab_made}
use Rattle.bits.specs.Pack.{bit_at}
use Rattle.sizes.specs.Sizes.{word_bits}
use Rattle.interleaver.specs.Interleaver.{deinterleave}
use Rattle.interleaver_columns.proofs.Numbers.{row_made}
use Rattle.interleaver_reader.proofs.Reading.{fresh, coded_made}
use borrow.Author.Rules.{rules}
use Rattle.interleaver_reader.proofs.deinterleave.Goals as goal

pub given-requires : goal.given-requires
given-requires c =
    let row = c in
    (search rules, row_made row.first_line.new.off row.first_line.ensures, search rules, row.requires.1)

pub returns : goal.returns
returns c =
    let end = c in
    let double = c in
    let turn = c in
    let order = c in
    let s = c in
    let word = c.args.word.now in
    tab_made word_bits (deinterleave (bit_at word)) end.given.new.coded (end.given.auto.coded ∙ s.requires.1) (λ x h.
    end.given.ensures x h
    ∙ coded_made word order.nines.new.out turn.transposed.new.s double.doubled.new.v
    order.nines.ensures.by_index (λ k g. order.nines.ensures.by_index_2 k g ∙ fresh 2160 k) turn.transposed.ensures double.doubled.ensures x h)
