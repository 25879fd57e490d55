-- Steps 8 and 9 on small numbers.
use mathlib.Core.Path.{◌≡◌, refl}
use mathlib.Core.List.{[], ◌∷◌, map}
use Rattle.bits.specs.Pack.{val, bit_at, piece}
use Rattle.channel.specs.declared.Layout.{Layout}
use Rattle.channel.specs.Channel.{data_at, place}

-- two words of four symbols, N = 4 and B = 1: 20 places make five lines
abbrev small : Layout
small = record { rows = 4; step = 1; symbols = 4; words = 2; markers = 1; lines = 5 }

-- ---- worked values

-- step 8: two words of two bytes, D7 3A and 5C 01, at m = 4; the second word's symbols follow the first's
pub data_example : map (data_at 4 small (piece 2 (0xD7 ∷ 0x3A ∷ 0x5C ∷ 0x01 ∷ []))) (0 ∷ 1 ∷ 2 ∷ 3 ∷ 4 ∷ 5 ∷ 6 ∷ 7 ∷ []) ≡ 0xD ∷ 0x7 ∷ 0x3 ∷ 0xA ∷ 0x5 ∷ 0xC ∷ 0x0 ∷ 0x1 ∷ []
unfolding data_at val bit_at
data_example = refl

-- step 9: the draft's example, N = 4 and B = 1, whose output is q0 . . . q4 q1 . . q8 q5 q2, with registers' contents where the points are
pub place_example : map (place small) (0 ∷ 4 ∷ 1 ∷ 8 ∷ 5 ∷ 2 ∷ []) ≡ 0 ∷ 4 ∷ 5 ∷ 8 ∷ 9 ∷ 10 ∷ []
unfolding place
place_example = refl
