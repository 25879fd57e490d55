-- The bits of a block, in whole bytes, rounded up.
use native.Mathlib.Omega.{arith}
use Rattle.sizes.specs.Sizes.{block_bytes}
use Rattle.sizes.proofs.block_bytes.Goals as goal

pub returns : goal.returns
unfolding block_bytes
returns c = let d = c.div_ceil.ensures in let i = c.info_bits.ensures in omega arith
