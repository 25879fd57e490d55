-- `info_bits` meets its contract: each arm answers what `info_bits` has at its number, and below 3 the last arm's number is 2.
use mathlib.Core.Path.{◌≡◌, sym, ap}
use native.Mathlib.Omega.{arith}
use Rattle.sizes.specs.Sizes.{info_bits}
use Rattle.sizes.proofs.info_bits.Goals as goal

pub returns-in-0 : goal.returns-in-0
unfolding info_bits
returns-in-0 c = ap info_bits (sym c.in-0.is)

pub returns-in-1 : goal.returns-in-1
unfolding info_bits
returns-in-1 c = ap info_bits (sym c.in-1.is)

pub returns-in_default : goal.returns-in_default
unfolding info_bits
returns-in_default c = let e : 2 ≡ c.args.rate = omega (arith, c.in_default.in_default-own.rest.1, c.in_default.in_default-own.rest.0.1) in ap info_bits e
