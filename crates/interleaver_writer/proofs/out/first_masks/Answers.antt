-- The numbers of the columns, and then each at its place.
use native.Mathlib.Omega.{arith}
use Rattle.interleaver_columns.specs.Inner.{taken_by, up_out}
use Rattle.interleaver_columns.proofs.Numbers.{first_same, out_lt}
use Rattle.interleaver_writer.proofs.out.first_masks.Goals as goal

pub put_masks-requires : goal.put_masks-requires
put_masks-requires c =
    let t = c.taken_columns in
    let s = c in
    ((t.auto.column, t.ensures.filled), t.auto.up, λ j h. omega (arith, t.ensures.filled_2 j h, out_lt (taken_by j)), s.requires.1)

pub returns : goal.returns
returns c =
    let t = c.taken_columns in
    first_same up_out t.new.up _ t.ensures.filled_2 c.put_masks.ensures
