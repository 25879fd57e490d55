-- The row of a step: its first byte and its length.
use Rattle.std.specs.Prelude.{◌≡◌, ℕ, ◌≤◌, ◌<◌}
use Rattle.delay.specs.Delay.{lag, begin}
use Rattle.delay.specs.declared.Side.{Side}

-- a row of N rows with B, as a header has them
pub record Rows (rows step i : ℕ) : Type 0 where
  pub row : i < rows
  pub rows_most : rows ≤ 128
  pub step_most : step ≤ 256

-- where it begins, and its bytes
pub record RowOf (side : Side) (rows step i from size : ℕ) : Type 0 where
  pub begins : from ≡ begin (lag side rows step) i
  pub lags : size ≡ lag side rows step i
