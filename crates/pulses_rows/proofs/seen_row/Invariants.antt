use Rattle.pulses.specs.Pulses.{symbol_in}
use Rattle.pulses_rows.specs.Inner.{Reached}
use Rattle.pulses_rows.proofs.seen_row.Given as goal

abbrev pub invariant-loop-s : goal.invariant-loop-s
invariant-loop-s l = Reached l.order (symbol_in l.order l.group l.b) l.initial.row l.from l.to l.s l.row
