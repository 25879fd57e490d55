use Prim.Native.Nat.{◌+◌, ◌*◌}
use Rattle.pulses.specs.Pulses.{symbol_in}
use Rattle.pulses_rows.specs.Inner.{Reached}
use Rattle.pulses_rows.proofs.forties.forties.Given as goal

abbrev pub invariant-loop-k : goal.invariant-loop-k
invariant-loop-k l = Reached l.order (symbol_in l.order l.group l.b) l.initial.row l.from l.to (l.from + l.per * l.k) l.row
