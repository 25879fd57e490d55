-- One symbol of the byte more at each turn.
use mathlib.Core.Path.{◌≡◌, refl, ap, ◌∙◌}
use Prim.Native.Nat.{ℕ, ◌+◌, ◌-◌, ◌*◌, ◌/◌, ◌%◌, ◌^◌, ◌≤◌, ◌<◌}
use native.Mathlib.Omega.{arith}
use lib.Bits.{bit_and}
use mathlib.Core.List.{List}
use lib.ListN.{get_or}
use Rattle.slots_gather.specs.Inner.{symbol_in}
use Rattle.slots_gather.proofs.Laws.Columns.{column_one, column_at_lem, column_on}
use Rattle.slots_gather.proofs.Laws.Turns.{bytewise, unpacked_value}
use Rattle.slots_gather.proofs.unpack_byte.Goals as goal

-- symbol q of the byte
value : (m : ℕ) → 8 % m ≡ 0 → (words : List ℕ) (b q : ℕ) → q < 8 / m
    → (m * q + m ≤ 8) × (bit_and (get_or words b 0 / 2 ^ (8 - m - m * q)) (1 * 2 ^ m % 2 ^ 64 - 1) ≡ symbol_in m words (b * (8 / m) + q))
value m h words b q l = unpacked_value m (8 / m) (1 * 2 ^ m % 2 ^ 64 - 1) (bytewise m h) words b q l

pub loop-q-preserved : goal.loop-q-preserved
loop-q-preserved g c =
    let a = c.args in
    let l = c.loop-q in
    let e = l.invariant.long in
    let h = c.requires.2 in
    let f : ℕ → ℕ = λ i. symbol_in g.row.M a.words.now (a.b * (8 / g.row.M) + i) in
    let one = column_at_lem l.row _ (a.at + l.q) (a.at + l.q * 1) 1 1 (λ i. f (l.q + i)) (omega arith) (column_one l.row (a.at + l.q) 1 _ (λ i. f (l.q + i)) (omega arith)
    ((value g.row.M c.requires.0 a.words.now a.b l.q (omega arith)).1 ∙ ap f (let z : l.q ≡ l.q + 0 = omega arith in z))) in
    column_on a.row.now l.row _ a.at 1 l.q 1 f (λ i. f (l.q + i)) (omega arith) l.invariant one (λ i h. refl)

pub returns : goal.returns
returns g c =
    let e : c.loop-q.q ≡ 8 / g.row.M = omega arith in
    rw e at c.loop-q.invariant
