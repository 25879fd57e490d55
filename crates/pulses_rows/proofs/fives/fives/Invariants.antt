use Prim.Native.Nat.{◌+◌, ◌*◌}
use Rattle.pulses.specs.Pulses.{symbol_in}
use Rattle.pulses_rows.specs.Inner.{Reached}
use Rattle.pulses_rows.proofs.fives.fives.Given as goal

abbrev pub invariant-loop-k : goal.invariant-loop-k
invariant-loop-k l = Reached 4 (symbol_in 4 5 l.b) l.initial.row l.from l.to (l.from + 8 * l.k) l.row
