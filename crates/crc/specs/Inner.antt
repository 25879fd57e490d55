-- The check register after several bits, and what a change of the bits changes.
use Rattle.std.specs.Prelude.{ℕ, zero, suc, ◌-◌, ltb}
use Rattle.bits.specs.Basics.{pick}
use Rattle.crc.specs.Check.{advance, check_bit}

-- a register after the first n bits of x
unfoldable pub advances : ℕ → (ℕ → ℕ) → ℕ → ℕ
advances r x zero = r
advances r x (suc n) = advance (advances r x n) (x n)

-- what is added to k bits and to the check field after them, where d is added to the bits
unfoldable pub checked_change : ℕ → (ℕ → ℕ) → ℕ → ℕ
checked_change k d i = pick (ltb i k) (d i) (check_bit (advances 0 d k) (i - k))
