use mathlib.Core.Path.{◌≡◌}
use Rattle.bits.specs.Count.{xor_sum}
use Rattle.crc_steps.specs.Inner.{change_of}
use Rattle.crc_steps.proofs.Sixes.{six_at}
use Rattle.crc_steps.proofs.eleven.Given as goal

abbrev pub invariant-loop-k : goal.invariant-loop-k
invariant-loop-k l = l.r ≡ xor_sum (λ k. change_of k (six_at l.v k)) l.k
