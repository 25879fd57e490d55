-- What each rate hands on to its loop.
use mathlib.Core.Path.{◌≡◌, ap, ◌∙◌}
use mathlib.Core.List.{List}
use Prim.Native.Nat.{ℕ}
use native.Mathlib.Omega.{arith}
use Rattle.sizes.specs.Sizes.{info_bits}
use Rattle.sizes.specs.Inner.{input_bits}
use Rattle.convolution.specs.Inner.{Encodes}
use Rattle.encoder_turns.specs.Inner.{Codes}

module _ (rate : ℕ) (input coded : List ℕ) (h : Encodes rate input coded) where
  pub encodes_third : rate ≡ 0 → Codes 630 input coded
  unfolding input_bits info_bits
  encodes_third e = record { input_size = omega (arith, h.input_size ∙ ap input_bits e); coded_size = h.coded_size }

  pub encodes_half : rate ≡ 1 → Codes 945 input coded
  unfolding input_bits info_bits
  encodes_half e = record { input_size = omega (arith, h.input_size ∙ ap input_bits e); coded_size = h.coded_size }

  pub encodes_two_thirds : rate ≡ 2 → Codes 1260 input coded
  unfolding input_bits info_bits
  encodes_two_thirds e = record { input_size = omega (arith, h.input_size ∙ ap input_bits e); coded_size = h.coded_size }
