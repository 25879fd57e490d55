-- The columns of the rows, and after them those of the next row.
use Rattle.decoder_columns.specs.Inner.{bits_of}
use Rattle.decoder_columns.proofs.Columns.{coded_past, held_next}
use Rattle.decoder_columns.proofs.rows.columns.Goals as goal

pub returns : goal.returns
returns c =
    let s = c in
    held_next (bits_of s.args.coded.now) s.requires.coded.bits (coded_past s.args.coded.now s.requires.coded) _ _ c.within.ensures c.follow.ensures
