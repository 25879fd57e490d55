-- One byte more at each turn.
use mathlib.Core.Path.{◌≡◌, refl, ap}
use mathlib.Core.List.{List}
use Prim.Native.Nat.{ℕ, ◌+◌, ◌*◌, ◌/◌, ◌^◌, ◌≤◌, ◌<◌}
use native.Mathlib.Omega.{arith}
use native.Mathlib.Nat.{le_refl, mul-le-mul}
use lib.Bits.{bit_and, and_le_r}
use lib.ListN.{length, get_or}
use Rattle.slots_gather.specs.Inner.{cut_from, Strides}
use Rattle.slots_gather.proofs.Laws.Columns.{column_one, column_on}
use Rattle.slots_gather.proofs.gather_some.Goals as goal

-- the sizes that the needs rest on
record Known (at by off mask : ℕ) (words : List ℕ) (from n : ℕ) (row : List ℕ) (j : ℕ) : Type 0 where
  pub step : at + j * by < 2 ^ 33
  pub far : from + j * n < 2 ^ 33
  pub inside : at + j * by < length words
  pub room : from + j * n < length row
  pub shift : off < 8
  pub small : bit_and (get_or words (at + j * by) 0 / 2 ^ off) mask < 256

known : (at step shift mask : ℕ) (words : List ℕ) (from n count : ℕ) (row : List ℕ) (j : ℕ) → Strides at step shift mask words from n count row → j < count
    → Known at step shift mask words from n row j
known at step shift mask words from n count row j h l =
    let le : j ≤ count = omega arith in
    let a : j * step ≤ count * step = mul-le-mul le (le_refl step) in
    let b : j * n ≤ count * n = mul-le-mul le (le_refl n) in
    let x = h.at_most in
    let y = h.from_most in
    let m = h.mask_most in
    let v = and_le_r (get_or words (at + j * step) 0 / 2 ^ shift) mask in
    record { step = omega arith; far = omega arith; inside = h.inside j l; room = h.room j l; shift = h.shift_most; small = omega arith }

pub loop-j-preserved : goal.loop-j-preserved
loop-j-preserved c =
    let s = c in
    let a = c.args in
    let l = c.loop-j in
    let e = c.loop-j.invariant.long in
    let room = (known _ _ _ _ _ _ _ _ _ l.j c.requires (omega arith)).room in
    let f : ℕ → ℕ = cut_from a.words.now a.cut.at a.cut.step a.cut.shift a.cut.mask in
    column_on a.row.now l.row _ a.to.from a.to.n l.j 1 f (λ i. f (l.j + i)) s.requires.n_least l.invariant
    (column_one l.row (a.to.from + l.j * a.to.n) a.to.n _ (λ i. f (l.j + i)) (omega arith) (ap f (let z : l.j ≡ l.j + 0 = omega arith in z)))
    (λ i h. refl)
