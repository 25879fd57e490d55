-- What each rate hands on to its loop.
use mathlib.Core.Path.{◌≡◌, ap, ◌∙◌}
use mathlib.Core.List.{List}
use Prim.Native.Nat.{ℕ}
use native.Mathlib.Omega.{arith}
use Rattle.sizes.specs.Sizes.{info_bits}
use Rattle.sizes.specs.Inner.{input_bits}
use Rattle.decoder.specs.Inner.{Unpacks}
use Rattle.decoder_bits.specs.Inner.{Steps, Pairs}

module _ (rate : ℕ) (coded bits : List ℕ) (h : Unpacks rate coded bits) where
  pub unpacks_third : rate ≡ 0 → Steps 3 5040 coded bits
  unfolding input_bits info_bits
  unpacks_third e =
      record { low = omega arith; high = omega arith; all = omega arith; coded_size = h.coded_size; input_size = h.bits_size ∙ ap input_bits e }

  pub unpacks_half : rate ≡ 1 → Steps 2 7560 coded bits
  unfolding input_bits info_bits
  unpacks_half e =
      record { low = omega arith; high = omega arith; all = omega arith; coded_size = h.coded_size; input_size = h.bits_size ∙ ap input_bits e }

  pub unpacks_two_thirds : rate ≡ 2 → Pairs coded bits
  unfolding input_bits info_bits
  unpacks_two_thirds e = record { coded_size = h.coded_size; input_size = h.bits_size ∙ ap input_bits e }
