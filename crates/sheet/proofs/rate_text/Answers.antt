-- Each arm has the fraction of its rate, and below 3 the last arm is rate 2.
use mathlib.Core.Path.{◌≡◌, sym, ap}
use native.Mathlib.Omega.{arith}
use Rattle.sizes.specs.Sizes.{inputs_per, coded_per}
use Rattle.sheet.specs.Line.{rate_text}
use Rattle.sheet.proofs.rate_text.Goals as goal

pub returns-in-0 : goal.returns-in-0
unfolding rate_text inputs_per coded_per
returns-in-0 c = ap rate_text (sym c.in-0.is)

pub returns-in-1 : goal.returns-in-1
unfolding rate_text inputs_per coded_per
returns-in-1 c = ap rate_text (sym c.in-1.is)

pub returns-in_default : goal.returns-in_default
unfolding rate_text inputs_per coded_per
returns-in_default c = let e : 2 ≡ c.args.rate = omega (arith, c.in_default.in_default-own.rest.1, c.in_default.in_default-own.rest.0.1) in ap rate_text e
