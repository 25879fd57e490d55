-- `unpacked` meets its contract: at each rate the loop that it calls makes that rate's input bits.
use mathlib.Core.Path.{◌≡◌, sym, ap, ◌∙◌}
use mathlib.Core.List.{List}
use Prim.Native.Nat.{ℕ}
use native.Mathlib.Omega.{arith}
use lib.ListN.{get_or}
use Rattle.bits.specs.Basics.{tab}
use Rattle.sizes.specs.Sizes.{info_bits}
use Rattle.sizes.specs.Inner.{input_bits}
use Rattle.convolution.specs.Code.{decode}
use Rattle.decoder.proofs.Rates.{unpacks_third, unpacks_half, unpacks_two_thirds}
use Rattle.decoder.proofs.unpacked.Goals as goal

-- the input bits at a rate
abbrev at : (ℕ → ℕ) → ℕ → List ℕ
at y r = tab (input_bits r) (decode r y)

pub steps-requires : goal.steps-requires
steps-requires c =
    let s = c in
    unpacks_third s.args.rate _ _ s.requires c.in-0.is

pub steps-requires-in-1 : goal.steps-requires-in-1
steps-requires-in-1 c =
    let s = c in
    unpacks_half s.args.rate _ _ s.requires c.in-1.is

pub pairs-requires : goal.pairs-requires
pairs-requires c =
    let s = c in
    unpacks_two_thirds s.args.rate _ _ s.requires (omega (arith, s.requires.rate_ok, c.in_default.in_default-own.rest.1, c.in_default.in_default-own.rest.0.1))

pub returns-in-0 : goal.returns-in-0
unfolding input_bits info_bits
returns-in-0 c =
    let s = c in
    c.steps.ensures ∙ ap (at (λ j. get_or s.args.coded.now j 0)) (sym c.in-0.is)

pub returns-in-1 : goal.returns-in-1
unfolding input_bits info_bits
returns-in-1 c =
    let s = c in
    c.steps-in-1.ensures ∙ ap (at (λ j. get_or s.args.coded.now j 0)) (sym c.in-1.is)

pub returns-in_default : goal.returns-in_default
unfolding input_bits info_bits
returns-in_default c =
    let s = c in
    let m = c.in_default.in_default-own in
    let e : 2 ≡ s.args.rate = omega (arith, s.requires.rate_ok, m.rest.1, m.rest.0.1) in
    c.pairs.ensures ∙ ap (at (λ j. get_or s.args.coded.now j 0)) e
