-- The run header, ten bytes, bit-packed, most significant bit first:
--
--     rate 2 bits | m 4 | rows N 8 | step B 9 | frame bytes F 12 | marker symbols W 6 | frame count A 7 | factor 6 | 26 zero bits
--
-- Archived headers have eight: the same without the factor, and 16 zero bits.
use Rattle.std.specs.Prelude.{List, ℕ, ◌+◌}
use Rattle.bits.specs.Pack.{val, bit_at}
use Rattle.header.specs.declared.Fields.{Fields}

-- the n bits from bit `at` on, as a number
unfoldable pub field : List ℕ → ℕ → ℕ → ℕ
field header at n = val (λ t. bit_at header (at + t)) n

-- the fields of a header; one of eight bytes has no factor, and none is asked for
unfoldable pub fields_of : List ℕ → Fields
fields_of header = record {
  rate = field header 0 2;
  bits = field header 2 4;
  rows = field header 6 8;
  step = field header 14 9;
  size = field header 23 12;
  markers = field header 35 6;
  frames = field header 41 7;
  copies = field header 48 6;
}

-- the 26 bits that must be zero
unfoldable pub spare_of : List ℕ → ℕ
spare_of header = field header 54 26

-- the 16 of an archived header
unfoldable pub old_spare_of : List ℕ → ℕ
old_spare_of header = field header 48 16

-- the same fields with this factor
unfoldable pub with_copies : ℕ → Fields → Fields
with_copies copies f = record {
  rate = f.rate;
  bits = f.bits;
  rows = f.rows;
  step = f.step;
  size = f.size;
  markers = f.markers;
  frames = f.frames;
  copies = copies;
}
