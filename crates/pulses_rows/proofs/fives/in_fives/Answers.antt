-- Two bits of each five.
use Rattle.pulses_rows.proofs.Fifths.{fives_symbols}
use Rattle.pulses_rows.proofs.fives.in_fives.Goals as goal

pub returns : goal.returns
returns c = λ k l. fives_symbols c.args.v k l
