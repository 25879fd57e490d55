-- Starts and bytes of the columns, their numbers in order, and the bits of these.
use borrow.Author.Rules.{rules}
use Rattle.interleaver_columns.specs.Inner.{up_in}
use Rattle.interleaver_columns.proofs.Numbers.{masks_rolled}
use Rattle.interleaver_columns.proofs.Starts.{in_lt}
use Rattle.interleaver_reader.proofs.Reading.{starts_right, given_bits}
use Rattle.interleaver_reader.proofs.back.given.Goals as goal

pub all_columns-requires : goal.all_columns-requires
all_columns-requires c =
    let first = c in
    (first.requires.0, starts_right first.starts.new.at first.starts.auto.at first.starts.ensures.filled, search rules)

pub returns : goal.returns
returns c =
    let end = c in
    let rows = c in
    let roll = c in
    let first = c in
    let s = c in
    let mask = c.rolled.new.mask in
    given_bits s.args.v.now first.starts.new.at rows.all_columns.new.seen mask end.split.new.coded
    first.starts.ensures.filled
    (masks_rolled up_in in_lt _ mask first.starts.ensures.first roll.rolled.ensures)
    rows.all_columns.ensures
    end.split.ensures
