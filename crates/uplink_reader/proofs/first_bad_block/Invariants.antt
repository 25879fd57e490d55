use mathlib.Core.Path.{◌≡◌}
use Rattle.bits.specs.Basics.{up_to}
use Rattle.ldpc.specs.Code.{is_codeword}
use Rattle.uplink.specs.Uplink.{received}
use Rattle.uplink_reader.proofs.first_bad_block.Given as goal

abbrev pub invariant-loop-i : goal.invariant-loop-i
invariant-loop-i l = up_to (λ i. is_codeword (received l.slots i)) l.i l.count ≡ up_to (λ i. is_codeword (received l.slots i)) 0 l.count
