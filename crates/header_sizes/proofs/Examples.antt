-- The specification's example and the longest stream, which antt computes.
use mathlib.Core.Path.{◌≡◌, refl}
use Rattle.sizes.specs.Sizes.{info_bits}
use Rattle.header.proofs.Examples.{example_fields}
use Rattle.header_sizes.specs.Quantities.{symbols_per_word, marked_bits, block_count, interleaver_delay, sequence_length, line_count, symbol_count}

pub example_symbols : symbol_count example_fields ≡ 844488
unfolding symbol_count line_count sequence_length block_count marked_bits symbols_per_word interleaver_delay info_bits
example_symbols = refl

-- its two marked frames have 8 · 223 + 32 bits each
pub example_marked : marked_bits example_fields ≡ 3632
unfolding marked_bits
example_marked = refl

-- the most blocks: 64 frames of 2,048 bytes at rate 1/3
pub most_blocks : block_count (record { rate = 0; bits = 2; rows = 1; step = 1; size = 2048; markers = 1; frames = 64; copies = 1 }) ≡ 210
unfolding block_count marked_bits info_bits
most_blocks = refl
