-- The code makes of the input bits that change the coded bits that change.
use mathlib.Core.Path.{◌∙◌}
use Rattle.bits.specs.Pack.{bit_at}
use Rattle.bits.proofs.Laws.Table.{tab_same}
use Rattle.sizes.specs.Sizes.{word_bits}
use Rattle.convolution.specs.Code.{encode}
use Rattle.convolution.proofs.Laws.Code.{encode_same}
use Rattle.spread.specs.Inner.{input_change}
use Rattle.spread.proofs.change_coded.Goals as goal

pub returns : goal.returns
returns c =
    let s = c in
    let t = c.change_input in
    let r = c.args.rate in
    let xs = c.change_input.new.input in
    c.encode.ensures
    ∙ tab_same word_bits (encode r (bit_at xs)) (encode r (input_change r s.args.bit)) (encode_same r (bit_at xs) (input_change r s.args.bit) s.requires.changes.rate_is t.ensures)
