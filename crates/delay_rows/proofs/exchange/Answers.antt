-- The remainder of the turn lies in the row, and the row in the area.
use mathlib.Core.Path.{refl}
use Prim.Native.Nat.{◌%◌, ◌<◌}
use native.Mathlib.Omega.{arith}
use native.Mathlib.Nat.{mod-lt}
use borrow.Author.Tests.{eq-eqb, ne_eqb}
use Rattle.delay_rows.proofs.exchange.Goals as goal

pub returns-then-lag-eq0 : goal.returns-then-lag-eq0
returns-then-lag-eq0 c = let a = c.args in record {
  value = rw (eq-eqb a.lag 0 c.if-lag-eq0.true) refl;
  area_after = rw (eq-eqb a.lag 0 c.if-lag-eq0.true) refl;
}

pub overflow_add-at : goal.overflow_add-at
overflow_add-at c =
    let a = c.args in
    let r : a.turn % a.lag < a.lag = mod-lt a.turn (omega arith) in
    omega arith

pub bounds-area-at : goal.bounds-area-at
bounds-area-at c =
    let a = c.args in
    let r : a.turn % a.lag < a.lag = mod-lt a.turn (omega arith) in
    omega arith

pub bounds-area-at-2 : goal.bounds-area-at-2
bounds-area-at-2 c =
    let a = c.args in
    let r : a.turn % a.lag < a.lag = mod-lt a.turn (omega arith) in
    omega arith

pub returns : goal.returns
returns c = let a = c.args in record {
  value = rw (ne_eqb a.lag 0 c.if-lag-eq0.false) refl;
  area_after = rw (ne_eqb a.lag 0 c.if-lag-eq0.false) refl;
}
