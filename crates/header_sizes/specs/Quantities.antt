-- What a header implies, each quantity with its letter in the specification (docs/SPECIFICATION.md).
use Rattle.std.specs.Prelude.{ℕ, ◌+◌, ◌-◌, ◌*◌, ◌/◌, ◌^◌}
use Rattle.sizes.specs.Sizes.{info_bits, word_bits, span}
use Rattle.channel.specs.declared.Layout.{Layout}
use Rattle.header.specs.declared.Fields.{Fields}

-- M, the pulse order
unfoldable pub pulse_order : Fields → ℕ
pulse_order f = 2 ^ f.bits

-- S, the symbols of a word (step 8)
unfoldable pub symbols_per_word : Fields → ℕ
symbols_per_word f = word_bits / f.bits

-- the bits of the A marked frames of F bytes each (step 1)
unfoldable pub marked_bits : Fields → ℕ
marked_bits f = f.frames * span f.size

-- C, the blocks of k bits that hold them: the last one is filled (step 1)
unfoldable pub block_count : Fields → ℕ
block_count f = (marked_bits f + (info_bits f.rate - 1)) / info_bits f.rate

-- the fill bits after the marked frames in these blocks (step 1)
unfoldable pub fill_bits : Fields → ℕ
fill_bits f = block_count f * info_bits f.rate - marked_bits f

-- N (N - 1) B, the places of step 9 that are not hit
unfoldable pub interleaver_delay : Fields → ℕ
interleaver_delay f = f.rows * (f.rows - 1) * f.step

-- the places of step 9
unfoldable pub sequence_length : Fields → ℕ
sequence_length f = block_count f * symbols_per_word f + interleaver_delay f

-- R, the lines of S places that they are cut into
unfoldable pub line_count : Fields → ℕ
line_count f = sequence_length f / symbols_per_word f

-- the symbols with markers: W before every S (step 10)
unfoldable pub symbol_count : Fields → ℕ
symbol_count f = line_count f * (symbols_per_word f + f.markers)

-- their layout: N, B, S, C, W and R
unfoldable pub layout_of : Fields → Layout
layout_of f = record { rows = f.rows; step = f.step; symbols = symbols_per_word f; words = block_count f; markers = f.markers; lines = line_count f }

-- the slots of a symbol: M, and M/4 empty guard slots
unfoldable pub slots_per_symbol : Fields → ℕ
slots_per_symbol f = pulse_order f + pulse_order f / 4

-- the symbols as they are sent: each as many times as the factor says
unfoldable pub sent_symbols : Fields → ℕ
sent_symbols f = symbol_count f * f.copies

-- their slots
unfoldable pub slot_count : Fields → ℕ
slot_count f = symbol_count f * f.copies * slots_per_symbol f

-- the lengths that question 8 compares: the slots, packed; the frames; the marker symbols
unfoldable pub slot_bytes : Fields → ℕ
slot_bytes f = (slot_count f + 7) / 8

unfoldable pub frame_bytes : Fields → ℕ
frame_bytes f = f.frames * f.size

abbrev pub marker_bytes : Fields → ℕ
marker_bytes f = f.markers
