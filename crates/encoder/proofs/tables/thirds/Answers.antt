-- The table has what the turns ask of it: computed tests of all its entries.
use mathlib.Core.Path.{refl}
use Rattle.sizes.specs.Sizes.{inputs_per, coded_per}
use Rattle.convolution.specs.Code.{input_place}
use Rattle.encoder_turns.specs.Inner.{turn_bit}
use Rattle.encoder_turns.proofs.Turning.{entries_right}
use Rattle.encoder.proofs.tables.thirds.Goals as goal

pub thirds-requires : goal.thirds-requires
unfolding turn_bit input_place inputs_per coded_per
thirds-requires c = record {
  thirds = record { long = refl; first = entries_right 0 0 0 5 0 _ tt; next = entries_right 0 8 2 6 32 _ tt; last = entries_right 0 16 5 5 96 _ tt };
  codes = c.requires;
}
