-- The sums of the rows before, in closed form: twice each is a product, which is halved.
use mathlib.Core.Path.{◌≡◌, refl}
use Prim.Native.Nat.{ℕ, ◌-◌, ◌*◌, ◌/◌, ◌≤◌, ◌<◌}
use native.Mathlib.Omega.{arith}
use native.Mathlib.Nat.{mul-le-mul}
use Rattle.delay_rows.specs.Inner.{RowOf}
use Rattle.delay.proofs.Laws.Delay.{square_least, write_begin, read_begin}
use Rattle.delay.specs.declared.Side.{Side}
use Rattle.delay.specs.declared.Side.TheVariants.{Writing, Reading}
use Rattle.delay_rows.proofs.row_of.Goals as goal

written : (side : Side) (rows step i : ℕ) → side ≡ Writing → RowOf side rows step i (step * (i * i - i) / 2) (i * step)
written side rows step i e =
    rw e record { begins = let b = write_begin rows step i in omega arith; lags = refl }

read : (side : Side) (rows step i : ℕ) → side ≡ Reading → i < rows → RowOf side rows step i (step * (i * (2 * rows - 1 - i)) / 2) ((rows - 1 - i) * step)
read side rows step i e l =
    rw e record { begins = let b = read_begin rows step i (omega arith) in omega arith; lags = refl }

pub overflow_mul-result : goal.overflow_mul-result
overflow_mul-result c =
    let a = c.args in
    let i : a.i ≤ 128 = omega arith in
    omega (arith, mul-le-mul i i)

pub overflow_sub-result : goal.overflow_sub-result
overflow_sub-result c = square_least c.args.i

pub overflow_mul-result-in-Writing : goal.overflow_mul-result-in-Writing
overflow_mul-result-in-Writing c =
    let a = c.args in
    let i : a.i ≤ 128 = omega arith in
    let b : a.step ≤ 256 = omega arith in
    let p : a.i * a.i - a.i ≤ 128 * 128 = omega (arith, mul-le-mul i i) in
    omega (arith, mul-le-mul b p)

pub overflow_mul-result-in-Writing-2 : goal.overflow_mul-result-in-Writing-2
overflow_mul-result-in-Writing-2 c =
    let a = c.args in
    let i : a.i ≤ 128 = omega arith in
    let b : a.step ≤ 256 = omega arith in
    omega (arith, mul-le-mul i b)

pub overflow_mul-result-in-Reading-2 : goal.overflow_mul-result-in-Reading-2
overflow_mul-result-in-Reading-2 c =
    let a = c.args in
    let i : a.i ≤ 128 = omega arith in
    let n : 2 * a.rows - 1 - a.i ≤ 256 = omega arith in
    omega (arith, mul-le-mul i n)

pub overflow_mul-result-in-Reading-3 : goal.overflow_mul-result-in-Reading-3
overflow_mul-result-in-Reading-3 c =
    let a = c.args in
    let i : a.i ≤ 128 = omega arith in
    let n : 2 * a.rows - 1 - a.i ≤ 256 = omega arith in
    let b : a.step ≤ 256 = omega arith in
    omega (arith, mul-le-mul b (mul-le-mul i n))

pub overflow_mul-result-in-Reading-4 : goal.overflow_mul-result-in-Reading-4
overflow_mul-result-in-Reading-4 c =
    let a = c.args in
    let n : a.rows - 1 - a.i ≤ 128 = omega arith in
    let b : a.step ≤ 256 = omega arith in
    omega (arith, mul-le-mul n b)

pub returns-in-Writing : goal.returns-in-Writing
returns-in-Writing c = let a = c.args in written a.side a.rows a.step a.i c.in-Writing.is

pub returns-in-Reading : goal.returns-in-Reading
returns-in-Reading c = let a = c.args in read a.side a.rows a.step a.i c.in-Reading.is (omega arith)
