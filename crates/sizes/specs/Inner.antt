-- The input bits of the code: block, check and termination.
use Rattle.std.specs.Prelude.{ℕ, ◌+◌}
use Rattle.sizes.specs.Sizes.{info_bits}

-- n, the input bits of the code: the block, 32 check bits and 2 termination bits
unfoldable pub input_bits : ℕ → ℕ
input_bits rate = info_bits rate + 34
