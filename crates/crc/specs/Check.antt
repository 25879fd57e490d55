-- Step 2, the check: a 32-bit register that starts as all ones and takes the block bit by bit. It follows the block, top bit first.
use Rattle.std.specs.Prelude.{ℕ, zero, suc, ◌-◌, ◌*◌, ◌/◌, ◌%◌, ◌^◌, ltb}
use Rattle.std.specs.Int.Bits.{bit_xor}
use Rattle.bits.specs.Basics.{pick}

-- D^32 + D^29 + D^18 + D^14 + D^3 + 1, without its highest term
abbrev pub polynomial : ℕ
polynomial = 0x20044009

-- one bit: the feedback is the top bit plus the bit; the register shifts up, and the polynomial is added where the feedback is 1
unfoldable pub advance : ℕ → ℕ → ℕ
advance r b = bit_xor (r * 2 % 2 ^ 32) (bit_xor (r / 2 ^ 31) b * polynomial)

-- the register after the first n bits of x
unfoldable pub register : (ℕ → ℕ) → ℕ → ℕ
register x zero = 0xFFFFFFFF
register x (suc n) = advance (register x n) (x n)

-- bit i of the check field, the register's top bit first
unfoldable pub check_bit : ℕ → ℕ → ℕ
check_bit r i = r / 2 ^ (31 - i) % 2

-- the k bits of x, and their check field after them
unfoldable pub checked : ℕ → (ℕ → ℕ) → ℕ → ℕ
checked k x i = pick (ltb i k) (x i) (check_bit (register x k) (i - k))
