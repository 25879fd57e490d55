-- `encode` meets its contract: at each rate the loop that it calls makes that rate's coded bits.
use mathlib.Core.Path.{◌≡◌, sym, ap, ◌∙◌}
use mathlib.Core.List.{List}
use Prim.Native.Nat.{ℕ}
use native.Mathlib.Omega.{arith}
use Rattle.bits.specs.Pack.{bit_at}
use Rattle.bits.specs.Basics.{tab}
use Rattle.sizes.specs.Sizes.{word_bits}
use Rattle.convolution.specs.Code.{encode}
use Rattle.encoder.proofs.Rates.{encodes_third, encodes_half, encodes_two_thirds}
use Rattle.encoder.proofs.encode.Goals as goal

-- the coded bits at a rate
abbrev at : (ℕ → ℕ) → ℕ → List ℕ
at x r = tab word_bits (encode r x)

pub thirds-requires : goal.thirds-requires
thirds-requires c =
    let s = c in
    encodes_third s.args.rate _ _ s.requires c.in-0.is

pub halves-requires : goal.halves-requires
halves-requires c =
    let s = c in
    encodes_half s.args.rate _ _ s.requires c.in-1.is

pub two_thirds-requires : goal.two_thirds-requires
two_thirds-requires c =
    let s = c in
    encodes_two_thirds s.args.rate _ _ s.requires (omega (arith, s.requires.rate_ok, c.in_default.in_default-own.rest.1, c.in_default.in_default-own.rest.0.1))

pub returns-in-0 : goal.returns-in-0
returns-in-0 c =
    let s = c in
    c.thirds.ensures ∙ ap (at (bit_at s.args.input.now)) (sym c.in-0.is)

pub returns-in-1 : goal.returns-in-1
returns-in-1 c =
    let s = c in
    c.halves.ensures ∙ ap (at (bit_at s.args.input.now)) (sym c.in-1.is)

pub returns-in_default : goal.returns-in_default
returns-in_default c =
    let s = c in
    let m = c.in_default.in_default-own in
    let e : 2 ≡ s.args.rate = omega (arith, s.requires.rate_ok, m.rest.1, m.rest.0.1) in
    c.two_thirds.ensures ∙ ap (at (bit_at s.args.input.now)) e
