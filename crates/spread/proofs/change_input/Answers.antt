-- The input bits are zeros, the bit itself, and the sum of the two checks, as `input_change` has them.
use Rattle.spread.proofs.Changed.{changed}
use Rattle.spread.proofs.change_input.Goals as goal

pub returns : goal.returns
returns c =
    let s = c in
    let before = c.check-before in
    let flipped = c.flip in
    let after = c.check-after in
    let turned = c.flip-2 in
    let ended = c.put_end in
    changed s.args.rate s.args.bit _ before.result after.result s.args.block.now s.args.input.now flipped.new.packed turned.new.packed ended.new.input
    s.requires c.info_bits-k.ensures flipped.ensures before.ensures after.ensures turned.ensures ended.ensures
