-- Forty bytes of zeros, again and again.
use native.Mathlib.Omega.{arith}
use Rattle.slots_moves.proofs.Laws.Zeros.{forty_repeats, zeros_filled}
use Rattle.slots_moves.proofs.fill_zeros.Goals as goal

pub returns : goal.returns
returns c = zeros_filled c.args.group _ _ _ c.zeros-forty.ensures (omega arith) c.lay_zeros.ensures
