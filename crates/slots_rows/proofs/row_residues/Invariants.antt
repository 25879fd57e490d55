use Rattle.bits.specs.Pack.{piece}
use Rattle.sizes.specs.Sizes.{word_bytes}
use Rattle.slots_rows.specs.Inner.{RowTo}
use Rattle.slots_rows.proofs.row_residues.Given as goal

abbrev pub invariant-loop-r : goal.invariant-loop-r
invariant-loop-r l = RowTo l.p (piece word_bytes l.words) l.line l.r l.row
