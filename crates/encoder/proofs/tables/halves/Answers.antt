-- The table has what the turns ask of it: computed tests of all its entries.
use mathlib.Core.Path.{refl}
use Rattle.sizes.specs.Sizes.{inputs_per, coded_per}
use Rattle.convolution.specs.Code.{input_place}
use Rattle.encoder_turns.specs.Inner.{turn_bit}
use Rattle.encoder_turns.proofs.Turning.{entries_right}
use Rattle.encoder.proofs.tables.halves.Goals as goal

pub halves-requires : goal.halves-requires
unfolding turn_bit input_place inputs_per coded_per
halves-requires c = record {
  halves = record { long = refl; first = entries_right 1 0 0 6 0 _ tt; last = entries_right 1 8 4 6 0 _ tt };
  codes = c.requires;
}
