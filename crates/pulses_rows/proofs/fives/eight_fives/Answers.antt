-- The row has the eight symbols, or what it had.
use Prim.Native.Nat.{◌*◌, ◌/◌}
use Rattle.pulses_rows.proofs.Eights.{eight_known}
use Rattle.pulses_rows.proofs.fives.eight_fives.Goals as goal

pub returns-then-bad_fives-eq0 : goal.returns-then-bad_fives-eq0
returns-then-bad_fives-eq0 c =
    let s = c in
    let a = c.args in
    let f = c.requires.0 in
    eight_known a.b.now a.s (a.s * 5 / 8) c.eight-v.result f.byte c.eight-v.ensures a.from c.in_fives.result a.row.now _ s.requires.1 s.requires.3 c.put_fives.ensures
    (c.bad_fives.ensures c.if-bad_fives-eq0.true) c.in_fives.ensures
