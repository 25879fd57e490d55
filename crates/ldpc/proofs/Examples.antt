-- Worked values, computed: the parity bits of some frames.
use mathlib.Core.Path.{◌≡◌, refl}
use Prim.Native.Nat.{ℕ}
use Rattle.bits.specs.Pack.{val, bit_of}
use Rattle.bits.specs.Count.{xor_sum}
use Rattle.ldpc.specs.Code.{rows, row_bit, parity_bit}

abbrev parity : ℕ → ℕ
parity frame = val (parity_bit (bit_of frame)) 64

-- a unit frame has its row of the table
pub first_bit : parity 0x8000000000000000 ≡ 0x0E69166BEF4C0BC2
unfolding val xor_sum rows row_bit parity_bit
first_bit = refl

-- the row after it, turned right by one in each piece of 16 bits
pub second_bit : parity 0x4000000000000000 ≡ 0x87348B3577A605E1
unfolding val xor_sum rows row_bit parity_bit
second_bit = refl

pub last_bit : parity 0x0000000000000001 ≡ 0x9D5445F48CBCD423
unfolding val xor_sum rows row_bit parity_bit
last_bit = refl

pub all_ones : parity 0xFFFFFFFFFFFFFFFF ≡ 0xFFFFFFFFFFFFFFFF
unfolding val xor_sum rows row_bit parity_bit
all_ones = refl

pub counting : parity 0x0123456789ABCDEF ≡ 0x57B93EE3C084BA54
unfolding val xor_sum rows row_bit parity_bit
counting = refl
