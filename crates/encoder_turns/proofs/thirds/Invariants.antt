use Rattle.bits.specs.Pack.{bit_at}
use Rattle.encoder_turns.proofs.Turning.{Coding}
use Rattle.encoder_turns.proofs.thirds.Given as goal

abbrev pub invariant-loop-i : goal.invariant-loop-i
invariant-loop-i l = Coding 0 8 24 (bit_at l.input) l.coded l.before l.i
