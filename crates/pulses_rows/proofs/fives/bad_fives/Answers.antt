-- Each fifth bit is that of its group alone.
use Rattle.pulses_rows.proofs.Fifths.{fives_single}
use Rattle.pulses_rows.proofs.fives.bad_fives.Goals as goal

pub returns : goal.returns
returns c = λ e k l. fives_single c.args.v k l e
