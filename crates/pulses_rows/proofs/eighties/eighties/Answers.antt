-- Each symbol goes into the row.
use Rattle.std.proofs.Common.{arith, rules}
use Rattle.pulses.specs.Pulses.{symbol_in}
use Rattle.pulses_rows.proofs.eighties.eighties.Goals as goal

pub returns : goal.returns
returns c = c.fill.ensures.reached (symbol_in 64 80 c.args.b.now) (λ k q low high e small. search rules) (λ i l. absurd (omega arith))
