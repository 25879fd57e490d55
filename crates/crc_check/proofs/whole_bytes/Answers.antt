-- The tables' rule is a test at each entry, which antt computes.
use mathlib.Core.Path.{refl}
use Rattle.crc.specs.Check.{advance}
use Rattle.crc.specs.Inner.{advances}
use Rattle.crc_check.proofs.Entries.{tables_right}
use Rattle.crc_check.proofs.whole_bytes.Goals as goal

pub by_tables-requires : goal.by_tables-requires
unfolding advance advances
by_tables-requires c = (tables_right _ refl tt, c.requires)
