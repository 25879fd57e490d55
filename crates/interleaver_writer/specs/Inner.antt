-- The planes that writing makes of the numbers.
use Rattle.std.specs.Prelude.{List, ℕ, ◌+◌, ◌*◌, ◌/◌, ◌%◌, get_or}
use Rattle.word_columns.specs.Inner.{row_bits, columns, line_bytes, plane_bytes}
use Rattle.interleaver.specs.Interleaver.{source_bit}
use Rattle.interleaver_columns.specs.Inner.{column_at}

-- number y of the planes, each of which has 30 lines of nine
unfoldable pub seen_out : List ℕ → ℕ → ℕ
seen_out v y = get_or v (source_bit (column_at (y / plane_bytes) (y % line_bytes)) % row_bits + columns * (y % plane_bytes / line_bytes)) 0
