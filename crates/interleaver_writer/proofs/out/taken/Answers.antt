-- The columns' bytes, the rows, and the rows turned.
use lib.ListN.{get_or}
use Rattle.interleaver_columns.specs.Inner.{up_out}
use Rattle.interleaver_columns.proofs.Numbers.{masks_rolled, masks_light, mixed_out, out_lt}
use Rattle.interleaver_writer.proofs.Writing.{out_turned}
use Rattle.interleaver_writer.proofs.out.taken.Goals as goal

pub all_lines-requires : goal.all_lines-requires
all_lines-requires c =
    let roll = c in
    let first = c in
    let s = c in
    let mask = c.rolled.new.mask in
    (s.requires.0, masks_light up_out out_lt mask (masks_rolled up_out out_lt _ mask first.first_masks.ensures roll.rolled.ensures), s.requires.2)

pub returns : goal.returns
returns c =
    let last = c in
    let rows = c in
    let roll = c in
    let first = c in
    let s = c in
    let mask = c.rolled.new.mask in
    let masks = masks_rolled up_out out_lt _ mask first.first_masks.ensures roll.rolled.ensures in
    let v = c.all_lines.new.v in
    out_turned (λ j. get_or s.args.coded.now j 0) s.requires.0.bits v last.turned.new.v
    (mixed_out s.args.coded.now mask v masks rows.all_lines.ensures)
    last.turned.ensures
