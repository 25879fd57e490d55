use mathlib.Core.Path.{◌≡◌}
use Prim.Native.Nat.{◌-◌, ◌≤◌}
use Rattle.bits.specs.Basics.{up_to}
use Rattle.sizes.specs.Sizes.{word_bits}
use Rattle.decoder_bits.specs.Inner.{same_at}
use Rattle.decoder_bits.proofs.compare.first_apart.Given as goal

abbrev pub invariant-loop-j : goal.invariant-loop-j
invariant-loop-j l = (l.j ≤ word_bits) × (up_to (same_at l.made l.coded) l.j word_bits ≡ up_to (same_at l.made l.coded) 0 word_bits)

abbrev pub decreases-loop-j : goal.decreases-loop-j
decreases-loop-j l = word_bits - l.j
