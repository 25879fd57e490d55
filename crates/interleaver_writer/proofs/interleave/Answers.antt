-- `interleave` meets its contract: the numbers of seven bits stand where the word has them, so they are its bytes once rows and bits have changed.
use mathlib.Core.Path.{◌∙◌}
use Prim.Native.Nat.{ℕ}
use lib.ListN.{get_or}
use Rattle.interleaver_columns.proofs.Numbers.{row_made}
use Rattle.interleaver_writer.proofs.Writing.{gathered, in_order, word_made}
use borrow.Author.Rules.{rules}
use Rattle.interleaver_writer.proofs.interleave.Goals as goal

pub taken-requires : goal.taken-requires
taken-requires c =
    let row = c in
    let s = c in
    (record { size = s.requires.0; bits = s.requires.1 }, row_made row.first_line.new.off row.first_line.ensures, search rules)

pub columns-requires : goal.columns-requires
columns-requires c =
    let row = c in
    (search rules, row_made row.first_line.new.off row.first_line.ensures, search rules)

pub returns : goal.returns
returns c =
    let end = c in
    let turn = c in
    let cols = c in
    let take = c in
    let s = c in
    let f : ℕ → ℕ = λ j. get_or s.args.coded.now j 0 in
    let seen = c.columns.new.seen in
    let ordered = c.transposed.new.s in
    word_made f s.requires.1 ordered end.nines.new.out (end.nines.auto.out ∙ s.requires.2)
    (in_order f s.requires.1 seen ordered
    (gathered f s.requires.1 take.taken.new.v seen take.taken.ensures cols.columns.ensures)
    turn.transposed.ensures)
    end.nines.ensures.by_index
