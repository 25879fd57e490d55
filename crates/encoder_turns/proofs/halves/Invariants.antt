use Rattle.bits.specs.Pack.{bit_at}
use Rattle.encoder_turns.proofs.Turning.{Coding}
use Rattle.encoder_turns.proofs.halves.Given as goal

abbrev pub invariant-loop-i : goal.invariant-loop-i
invariant-loop-i l = Coding 1 8 16 (bit_at l.input) l.coded l.before l.i
