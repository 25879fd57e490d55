-- Step 5, the code interleaver: output place j takes coded bit (11 j + 210 j²) mod 15,120.
use Rattle.std.specs.Prelude.{ℕ, ◌+◌, ◌*◌, ◌%◌, ◌<◌, ◌≡◌, List, length, get_or}
use Rattle.sizes.specs.Sizes.{word_bits}

unfoldable pub source_bit : ℕ → ℕ
source_bit j = (11 * j + 210 * (j * j)) % word_bits

unfoldable pub interleave : (ℕ → ℕ) → ℕ → ℕ
interleave c j = c (source_bit j)

-- and back: the output place that took coded bit x, a polynomial of the same kind
unfoldable pub output_place : ℕ → ℕ
output_place x = (14891 * x + 210 * (x * x)) % word_bits

unfoldable pub deinterleave : (ℕ → ℕ) → ℕ → ℕ
deinterleave f x = f (output_place x)

-- Step 5's square term from a table: 210 j² mod 15,120 depends on j mod 36 alone, so 36 constants stand in for the formula.

-- the square term of step 5
abbrev pub square_term : ℕ → ℕ
square_term j = 210 * (j * j) % word_bits

-- the table's rule: 36 entries, and entry c is the square term of c
pub record Squares (table : List ℕ) : Type 0 where
  pub size : length table ≡ 36
  pub entry : (c : ℕ) → c < 36 → get_or table c 0 ≡ square_term c
