-- One symbol more at each turn.
use mathlib.Core.Path.{◌≡◌, refl, ap, ◌∙◌}
use mathlib.Core.List.{List}
use Prim.Native.Nat.{ℕ, ◌+◌, ◌-◌, ◌*◌, ◌^◌, ◌≤◌, ◌<◌}
use native.Mathlib.Omega.{arith}
use native.Mathlib.Nat.{le_refl, mul-le-mul}
use lib.ListN.{length}
use lib.Pow.{pow_mono}
use Rattle.bits.specs.Pack.{bit_at}
use Rattle.bits.proofs.Laws.Pack.{val_lt, bit_lt}
use Rattle.slots_gather.specs.Inner.{symbol_in, Gather}
use Rattle.slots_gather.proofs.Laws.Columns.{column_one, column_on}
use Rattle.slots_gather.proofs.gather_fields.Goals as goal

-- the sizes that the needs rest on
record Known (m t n : ℕ) (words : List ℕ) (from : ℕ) (row : List ℕ) (j : ℕ) : Type 0 where
  pub bits : m * (t + j * n) < 2 ^ 32
  pub inside : m * (t + j * n) + m ≤ 8 * length words
  pub room : from + j * n < length row
  pub near : from + j * n < 2 ^ 32
  pub index : t + j * n < 2 ^ 32
  pub small : symbol_in m words (t + j * n) < 256

known : (m t n count : ℕ) (words : List ℕ) (from : ℕ) (row : List ℕ) (j : ℕ) → Gather m t n count words from row → j < count → Known m t n words from row j
known m t n count words from row j h l =
    let x : ℕ = t + j * n in
    let few : x < 2 ^ 23 = h.few j l in
    let le : x ≤ 2 ^ 23 - 1 = omega arith in
    let most : m * x ≤ 8 * (2 ^ 23 - 1) = mul-le-mul h.bits_most le in
    let v = val_lt (λ i. bit_at words (m * x + i)) (λ i. bit_lt words (m * x + i)) m in
    let w : 2 ^ m ≤ 2 ^ 8 = pow_mono h.bits_most in
    let y = h.from_most in
    let step : j * n ≤ j * 128 = mul-le-mul (le_refl j) h.step_most in
    record { bits = omega arith; inside = h.inside j l; room = h.room j l; near = omega arith; index = omega arith; small = omega arith }

pub overflow_cast-row : goal.overflow_cast-row
overflow_cast-row c =
    let k = (known _ _ _ _ _ _ _ c.loop-j.j c.requires (omega arith)).small in
    omega (arith, c.field.ensures)

pub loop-j-preserved : goal.loop-j-preserved
loop-j-preserved c =
    let a = c.args in
    let l = c.loop-j in
    let room = (known _ _ _ _ _ _ _ l.j c.requires (omega arith)).room in
    let long = l.invariant.long in
    let f : ℕ → ℕ = λ k. symbol_in a.m a.words.now (a.t + k * a.to.n) in
    column_on a.row.now l.row _ a.to.from a.to.n l.j 1 f (λ i. f (l.j + i)) c.requires.step_least l.invariant
    (column_one l.row (a.to.from + l.j * a.to.n) a.to.n _ (λ i. f (l.j + i)) (omega arith) (c.field.ensures ∙ ap f (let z : l.j ≡ l.j + 0 = omega arith in z)))
    (λ i h. refl)
