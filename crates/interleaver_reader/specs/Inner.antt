-- The coded bits that reading takes out of the planes.
use Rattle.std.specs.Prelude.{List, ℕ, ◌+◌, ◌*◌, ◌/◌, ◌%◌, ◌^◌, get_or}
use Rattle.word_columns.specs.Inner.{row_bits, columns, line_bytes}
use Rattle.interleaver_columns.specs.Inner.{start_in, up_in}

-- coded bit x out of the planes
unfoldable pub bit_back : List ℕ → ℕ → ℕ
bit_back v x = get_or v (line_bytes * (x % row_bits / columns) + start_in (x % columns)) 0 / 2 ^ ((x / row_bits + up_in (x % columns)) % 7) % 2
