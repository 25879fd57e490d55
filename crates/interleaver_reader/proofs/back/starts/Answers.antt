-- The numbers of the columns, and then each at its place.
use native.Mathlib.Omega.{arith}
use Rattle.interleaver_columns.specs.Inner.{taken_by, up_in}
use Rattle.interleaver_columns.proofs.Numbers.{first_same}
use Rattle.interleaver_columns.proofs.Starts.{in_lt}
use Rattle.interleaver_reader.proofs.back.starts.Goals as goal

pub put_masks-requires : goal.put_masks-requires
put_masks-requires c =
    let t = c.taken_columns in
    let s = c in
    ((t.auto.column, t.ensures.filled), t.auto.up, λ j h. omega (arith, t.ensures.filled_3 j h, in_lt (taken_by j)), s.requires.2)

pub returns : goal.returns
returns c =
    let t = c.taken_columns in
    record {
      filled = c.put_starts.ensures;
      first = first_same up_in t.new.up _ t.ensures.filled_3 c.put_masks.ensures;
    }
