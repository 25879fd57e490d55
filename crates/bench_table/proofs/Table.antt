-- The proofs of the bench table: both sides are computed.
use mathlib.Core.Path.{refl}
use Rattle.bits.specs.Pack.{val, bit_at}
use Rattle.sizes.specs.Sizes.{inputs_per, coded_per}
use Rattle.crc.specs.Check.{register, advance}
use Rattle.convolution.specs.Code.{encode, input_place, first, second, delay}
use Rattle.interleaver.specs.Interleaver.{source_bit}
use Rattle.accumulator.specs.Accumulator.{accumulate}
use Rattle.randomizer.specs.Randomizer.{sequence, window, next}
use Rattle.channel.specs.Channel as channel
use Rattle.pulses.specs.Pulses as pulses
use Rattle.bench_table.specs.Table.{Rows, Bench, SentTwice}

pub rows : Rows
rows = refl

pub bench : Bench
unfolding val sequence window next source_bit register advance encode input_place first second delay inputs_per coded_per accumulate bit_at channel.data_at channel.with_markers pulses.slot_bit
bench = refl

pub sent_twice : SentTwice
unfolding val bit_at channel.data_at channel.with_markers pulses.slot_bit
sent_twice = refl
