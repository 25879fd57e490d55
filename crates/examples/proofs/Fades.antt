-- Fades over small runs, and edges of the list's rules, which antt computes.
use mathlib.Core.Path.{◌≡◌, refl}
use mathlib.Core.Bool.{true, false}
use mathlib.Core.List.{[], ◌∷◌, map}
use Rattle.bits.specs.Basics.{first_from, tab}
use Rattle.bits.specs.Count.{weight}
use Rattle.sizes.specs.Sizes.{info_bits}
use Rattle.header.proofs.Examples.{example_fields}
use Rattle.header_sizes.specs.Quantities.{symbols_per_word, marked_bits, block_count, interleaver_delay, sequence_length, line_count, layout_of}
use Rattle.channel.specs.Channel.{place, hit_by, place_at}
use Rattle.channel.specs.declared.Layout.{Layout}
use Rattle.fades.specs.Fades.{covered, fades_good, list_good, is_marker, source_of, is_filler, carries, of_word, hits, counts_of}

-- N = 3, B = 1 and W = 1 with two words of three symbols. In four lines stand, with M for a marker, a point for a filler and a symbol's word:
--     M 0 . .   M 1 0 .   M . 1 0   M . . 1
abbrev small : Layout
small = record { rows = 3; step = 1; symbols = 3; words = 2; markers = 1; lines = 4 }

-- the whole run; markers and fillers; one symbol of each word; two and two up to the last symbol; nothing
pub small_counts : map (counts_of small) ((0 ∷ 16 ∷ []) ∷ (2 ∷ 3 ∷ []) ∷ (5 ∷ 2 ∷ []) ∷ (6 ∷ 1 ∷ 10 ∷ 6 ∷ []) ∷ [] ∷ [])
    ≡ (3 ∷ 3 ∷ []) ∷ (0 ∷ 0 ∷ []) ∷ (1 ∷ 1 ∷ []) ∷ (2 ∷ 2 ∷ []) ∷ (0 ∷ 0 ∷ []) ∷ []
unfolding counts_of tab hits weight covered of_word carries is_marker is_filler source_of hit_by place_at place first_from
small_counts = refl

-- rate 1/2, m = 8, N = 6, B = 63, W = 2 and three frames of 900 bytes: the first marker, the first symbol, a filler, the last symbol, and twelve symbols of which two are markers
abbrev larger : Layout
larger = record { rows = 6; step = 63; symbols = 1890; words = 3; markers = 2; lines = 4 }

pub larger_counts : map (counts_of larger) ((0 ∷ 2 ∷ []) ∷ (2 ∷ 1 ∷ []) ∷ (3 ∷ 1 ∷ []) ∷ (7567 ∷ 1 ∷ []) ∷ (3780 ∷ 12 ∷ []) ∷ [])
    ≡ (0 ∷ 0 ∷ 0 ∷ []) ∷ (1 ∷ 0 ∷ 0 ∷ []) ∷ (0 ∷ 0 ∷ 0 ∷ []) ∷ (0 ∷ 0 ∷ 1 ∷ []) ∷ (1 ∷ 8 ∷ 1 ∷ []) ∷ []
unfolding counts_of tab hits weight covered of_word carries is_marker is_filler source_of hit_by place_at place first_from
larger_counts = refl

-- the specification's example: 844,488 symbols
pub example_layout : layout_of example_fields ≡ record { rows = 84; step = 120; symbols = 2520; words = 1; markers = 16; lines = 333 }
unfolding layout_of line_count sequence_length block_count marked_bits symbols_per_word interleaver_delay info_bits
example_layout = refl

-- in a run of 16 symbols: none, all of it, the last symbol, and two that touch are right;
pub right_lists : map (list_good 16) ([] ∷ (0 ∷ 16 ∷ []) ∷ (15 ∷ 1 ∷ []) ∷ (3 ∷ 2 ∷ 5 ∷ 1 ∷ []) ∷ []) ≡ true ∷ true ∷ true ∷ true ∷ []
unfolding fades_good
right_lists = refl

-- half a pair, after one and alone, one of no symbol, out of order, overlapping, the same twice, and past the run, also by a sum of 2^32, are not
pub wrong_lists : map (list_good 16) ((3 ∷ []) ∷ (3 ∷ 1 ∷ 5 ∷ []) ∷ (5 ∷ 0 ∷ []) ∷ (5 ∷ 1 ∷ 3 ∷ 1 ∷ []) ∷ (3 ∷ 2 ∷ 4 ∷ 1 ∷ []) ∷ (3 ∷ 2 ∷ 3 ∷ 2 ∷ [])
    ∷ (15 ∷ 2 ∷ []) ∷ (16 ∷ 1 ∷ []) ∷ (0 ∷ 17 ∷ []) ∷ (4294967295 ∷ 1 ∷ []) ∷ [])
    ≡ false ∷ false ∷ false ∷ false ∷ false ∷ false ∷ false ∷ false ∷ false ∷ false ∷ []
unfolding fades_good
wrong_lists = refl
