-- Copies of symbols at M = 4, groups of five slots, and what they pool to; 4 is no symbol.
use mathlib.Core.Path.{◌≡◌, refl}
use mathlib.Core.List.{List, [], ◌∷◌}
use Prim.Native.Nat.{ℕ}
use Rattle.bits.specs.Basics.{first_from}
use Rattle.bits.specs.Pack.{bit_at}
use Rattle.bits.specs.Count.{weight}
use Rattle.pool.specs.Pooled.{count, beats, peak, pooled}

abbrev two : List ℕ → ℕ
two b = pooled b 2 5 4 0

abbrev three : List ℕ → ℕ
three b = pooled b 3 5 4 0

-- 00100 00010: as many in slot 2 as in slot 3
-- 00100 00000: a single pulse is enough
-- 11111 00100: slot 2 has two, each other one
-- 00000 00000: none
pub two_copies : two (32 ∷ 128 ∷ []) ∷ two (32 ∷ 0 ∷ []) ∷ two (249 ∷ 0 ∷ []) ∷ two (0 ∷ 0 ∷ []) ∷ [] ≡ 4 ∷ 2 ∷ 2 ∷ 4 ∷ []
unfolding pooled peak beats count weight bit_at first_from
two_copies = refl

-- 00100 00100 00010: two against one
-- 00100 00001 00001: the guard slot is in front
-- 01100 00100 01000: two in slot 1, and two in slot 2
pub three_copies : three (33 ∷ 4 ∷ []) ∷ three (32 ∷ 66 ∷ []) ∷ three (97 ∷ 16 ∷ []) ∷ [] ≡ 2 ∷ 4 ∷ 4 ∷ []
unfolding pooled peak beats count weight bit_at first_from
three_copies = refl

-- 00100 00100 01000 01000: symbol 1 comes after all copies of symbol 0
pub copies_in_a_row : pooled (33 ∷ 16 ∷ 128 ∷ []) 2 5 4 1 ≡ 1
unfolding pooled peak beats count weight bit_at first_from
copies_in_a_row = refl
