-- The table has what the turns ask of it: computed tests of all its entries.
use mathlib.Core.Path.{refl}
use Rattle.sizes.specs.Sizes.{inputs_per, coded_per}
use Rattle.convolution.specs.Code.{input_place}
use Rattle.encoder_turns.specs.Inner.{turn_bit}
use Rattle.encoder_turns.proofs.Turning.{entries_right}
use Rattle.encoder.proofs.tables.two_thirds.Goals as goal

pub two_thirds-requires : goal.two_thirds-requires
unfolding turn_bit input_place inputs_per coded_per
two_thirds-requires c = record {
  two_thirds = record { long = refl; first = entries_right 2 0 0 7 0 _ tt; next = entries_right 2 8 5 8 128 _ tt; last = entries_right 2 16 10 8 384 _ tt };
  codes = c.requires;
}
