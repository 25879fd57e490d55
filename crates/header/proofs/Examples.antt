-- The paper's header, read.
use mathlib.Core.Path.{◌≡◌, refl}
use mathlib.Core.List.{List, [], ◌∷◌}
use Prim.Native.Nat.{ℕ}
use Rattle.bits.specs.Pack.{val, bit_at}
use Rattle.header.specs.declared.Fields.{Fields}
use Rattle.header.specs.Header.{field, fields_of, spare_of, old_spare_of}

-- 59 50 F0 1B E8 02 04 00 00 00
abbrev pub example : List ℕ
example = 89 ∷ 80 ∷ 240 ∷ 27 ∷ 232 ∷ 2 ∷ 4 ∷ 0 ∷ 0 ∷ 0 ∷ []

abbrev pub example_fields : Fields
example_fields = record { rate = 1; bits = 6; rows = 84; step = 120; size = 223; markers = 16; frames = 2; copies = 1 }

pub example_read : fields_of example ≡ example_fields
unfolding fields_of field val bit_at
example_read = refl

-- the zero bits are those after: of ten bytes 26, and of eight 16
pub zero_bits : (spare_of (0 ∷ 0 ∷ 0 ∷ 0 ∷ 0 ∷ 0 ∷ 3 ∷ 255 ∷ 255 ∷ 255 ∷ []) ≡ 67108863) × (old_spare_of (0 ∷ 0 ∷ 0 ∷ 0 ∷ 0 ∷ 0 ∷ 255 ∷ 255 ∷ []) ≡ 65535)
unfolding spare_of old_spare_of field val bit_at
zero_bits = (refl, refl)
