-- The k bits, the check's and two zeros stand one after another, as steps 2 and 3 have them.
use native.Mathlib.Omega.{arith}
use Rattle.sizes.specs.Inner.{input_bits}
use Rattle.sizes.proofs.Laws.Rate.{info_ge}
use Rattle.word.proofs.Laws.Inputs.{input_ended}
use Rattle.word_writer.proofs.add_check.Goals as goal

pub check-check-requires : goal.check-check-requires
unfolding input_bits
check-check-requires c = let s = c in omega (arith, s.requires.input_is, c.info_bits.ensures)

pub put_end-requires : goal.put_end-requires
unfolding input_bits
put_end-requires c = let s = c in omega (arith, s.requires.input_is, info_ge s.args.rate)

pub returns : goal.returns
returns c =
    let s = c in
    input_ended s.args.rate s.args.input.now _ _ _ s.requires.input_is
    c.info_bits.ensures c.check-check.ensures c.put_end.ensures
