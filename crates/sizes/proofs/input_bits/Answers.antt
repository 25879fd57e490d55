-- `input_bits` meets its contract: it computes `input_bits` from what `info_bits` answers, and no sum wraps, since a block is at most 10,046 bits long.
use native.Mathlib.Omega.{arith}
use borrow.Author.Rules.{rules}
use Rattle.sizes.specs.Inner.{input_bits}
use Rattle.sizes.proofs.Laws.Rate.{info_le}
use Rattle.sizes.proofs.input_bits.Goals as goal

pub overflow_add-result : goal.overflow_add-result
overflow_add-result c = omega (arith, info_le c.args.rate)

pub returns : goal.returns
unfolding input_bits
returns c = search rules
