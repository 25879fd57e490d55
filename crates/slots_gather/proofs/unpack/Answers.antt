-- The symbols of one byte more at each turn.
use mathlib.Core.Path.{◌≡◌, sym, ap}
use Prim.Native.Nat.{ℕ, ◌+◌, ◌*◌, ◌/◌}
use native.Mathlib.Omega.{arith}
use native.Mathlib.Nat.{mul_comm, add-mul}
use Rattle.slots_gather.specs.Inner.{symbol_in}
use Rattle.slots_gather.proofs.Laws.Columns.{column_at_lem, column_on}
use Rattle.slots_gather.proofs.unpack.Goals as goal

pub loop-i-preserved : goal.loop-i-preserved
loop-i-preserved g c =
    let a = c.args in
    let l = c.loop-i in
    let m : ℕ = g.row.M in
    let turn : ℕ = 8 / m in
    let f : ℕ → ℕ = λ j. symbol_in m a.words.now (a.b * turn + j) in
    let q : ℕ → ℕ = λ q. symbol_in m a.words.now ((a.b + l.i) * turn + q) in
    let on : turn * l.i + turn ≡ turn * (l.i + 1) = omega arith in
    let next = column_at_lem l.row _ (a.at + turn * l.i) (a.at + turn * l.i * 1) 1 turn q (omega arith) c.unpack_byte.ensures in
    rw (sym on) (column_on a.row.now l.row _ a.at 1 (turn * l.i) turn f q (omega arith) l.invariant next
    (λ j h. ap (symbol_in m a.words.now) (let z : (a.b + l.i) * turn + j ≡ a.b * turn + (turn * l.i + j) = omega (arith, add-mul a.b l.i turn, mul_comm l.i turn) in z)))

pub returns : goal.returns
returns g c =
    let e : c.loop-i.i ≡ c.args.n = omega arith in
    rw e at c.loop-i.invariant
