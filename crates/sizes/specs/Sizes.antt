-- The sizes that several crates share, each named once.
use Rattle.std.specs.Prelude.{ℕ, ◌+◌, ◌*◌, zero, suc, ◌/◌}

-- the coded bits of a word (step 4), and its bytes
abbrev pub word_bits : ℕ
word_bits = 15120

abbrev pub word_bytes : ℕ
word_bytes = 1890

-- the frame marker, and its bits (step 1)
abbrev pub frame_marker : ℕ
frame_marker = 0x1ACFFC1D

abbrev pub marker_bits : ℕ
marker_bits = 32

-- the bits of a marked frame of `size` bytes
abbrev pub span : ℕ → ℕ
span size = marker_bits + 8 * size

-- The three code rates: 0 for 1/3, 1 for 1/2, 2 for 2/3.

-- k, the bits of an information block
unfoldable pub info_bits : ℕ → ℕ
info_bits zero = 5006
info_bits (suc zero) = 7526
info_bits (suc (suc r)) = 10046

-- the bytes of a packed block: k bits and two spare ones
unfoldable pub block_bytes : ℕ → ℕ
block_bytes rate = (info_bits rate + 7) / 8

-- the code rate as a fraction: of every `coded_per` coded bits, `inputs_per` are input bits
unfoldable pub inputs_per : ℕ → ℕ
inputs_per zero = 1
inputs_per (suc zero) = 1
inputs_per (suc (suc r)) = 2

unfoldable pub coded_per : ℕ → ℕ
coded_per zero = 3
coded_per (suc zero) = 2
coded_per (suc (suc r)) = 3
