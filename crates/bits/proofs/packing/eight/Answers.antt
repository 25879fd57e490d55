-- Eight bytes, each at its worth, are the number of their bits.
use Rattle.bits.proofs.Joining.{joined_eight}
use Rattle.bits.proofs.packing.eight.Goals as goal

pub returns : goal.returns
returns c = joined_eight c.args.packed.now (λ i. (c.type_inv.packed i).fits) c.args.at _ c.from_be_bytes.ensures
