-- Joined differences are 0 only where both are.
use mathlib.Core.Path.{◌∙◌}
use lib.Bits.{and_mask}
use Rattle.bits.proofs.Laws.Sum.{or_zero, same_xor}
use Rattle.decoder_fast.proofs.start_apart.Goals as goal

pub returns : goal.returns
returns c =
    λ z.
    let p = or_zero _ _ z in
    record { same = same_xor _ _ p.0; first = same_xor _ _ p.1 ∙ and_mask _ 1 }
