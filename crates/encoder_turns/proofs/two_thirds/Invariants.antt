use Rattle.bits.specs.Pack.{bit_at}
use Rattle.encoder_turns.proofs.Turning.{Coding}
use Rattle.encoder_turns.proofs.two_thirds.Given as goal

abbrev pub invariant-loop-i : goal.invariant-loop-i
invariant-loop-i l = Coding 2 16 24 (bit_at l.input) l.coded l.before l.i
