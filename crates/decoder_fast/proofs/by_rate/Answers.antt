-- Each rate has its own function.
use mathlib.Core.Path.{◌≡◌, sym, ap, ◌∙◌}
use Prim.Native.Nat.{ℕ}
use native.Mathlib.Omega.{arith}
use Rattle.bits.specs.Pack.{bit_at}
use Rattle.sizes.specs.Sizes.{info_bits}
use Rattle.sizes.specs.Inner.{input_bits}
use Rattle.convolution.specs.Code.{encode}
use Rattle.decoder_fast.proofs.by_rate.Goals as goal

pub thirds-requires : goal.thirds-requires
unfolding input_bits info_bits
thirds-requires c =
    let s = c in
    let e : s.args.rate ≡ 0 = c.in-0.is in
    record {
      summed = c.summed.ensures;
      input_len = omega (arith, s.requires.decodes.input_size ∙ ap input_bits e);
    }

pub halves-requires : goal.halves-requires
unfolding input_bits info_bits
halves-requires c =
    let s = c in
    let e : s.args.rate ≡ 1 = c.in-1.is in
    record {
      summed = c.summed.ensures;
      input_len = omega (arith, s.requires.decodes.input_size ∙ ap input_bits e);
    }

pub two_thirds-requires : goal.two_thirds-requires
unfolding input_bits info_bits
two_thirds-requires c =
    let s = c in
    let e : s.args.rate ≡ 2 = omega (arith, s.requires.decodes.rate_ok, c.in_default.in_default-own.rest.1, c.in_default.in_default-own.rest.0.1) in
    record {
      summed = c.summed.ensures;
      input_len = omega (arith, s.requires.decodes.input_size ∙ ap input_bits e);
    }

pub returns-in-0 : goal.returns-in-0
returns-in-0 c =
    let s = c in
    let e : s.args.rate ≡ 0 = c.in-0.is in
    λ z j l. c.thirds.ensures z j l ∙ ap (λ (r : ℕ). encode r (bit_at c.thirds.new.input) j) (sym e)

pub returns-in-1 : goal.returns-in-1
returns-in-1 c =
    let s = c in
    let e : s.args.rate ≡ 1 = c.in-1.is in
    λ z j l. c.halves.ensures z j l ∙ ap (λ (r : ℕ). encode r (bit_at c.halves.new.input) j) (sym e)

pub returns-in_default : goal.returns-in_default
returns-in_default c =
    let s = c in
    let e : s.args.rate ≡ 2 = omega (arith, s.requires.decodes.rate_ok, c.in_default.in_default-own.rest.1, c.in_default.in_default-own.rest.0.1) in
    λ z j l. c.two_thirds.ensures z j l ∙ ap (λ (r : ℕ). encode r (bit_at c.two_thirds.new.input) j) (sym e)
