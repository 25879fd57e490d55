-- Step 5 and its way back undo each other, and both keep bits, sums and equal bits.
use mathlib.Core.Path.{◌≡◌, refl, ap}
use Prim.Native.Nat.{ℕ, ◌+◌, ◌*◌, ◌%◌, ◌<◌}
use native.Mathlib.Omega.{arith}
use native.Mathlib.Nat.{mod-lt}
use lib.Bits.{bit_xor}
use lib.Dec.{eqb, eqb→eq}
use Rattle.bits.proofs.Laws.Table.{below_all}
use Rattle.bits.specs.Pack.{Bits}
use Rattle.sizes.specs.Sizes.{word_bits}
use Rattle.interleaver.specs.Interleaver.{source_bit, interleave, output_place, deinterleave}

-- each undoes the other: a test at every place, which antt computes
pub output_source : (j : ℕ) → j < word_bits → output_place (source_bit j) ≡ j
unfolding source_bit output_place
output_source j h = eqb→eq (output_place (source_bit j)) j (below_all word_bits (λ j. eqb (output_place (source_bit j)) j) tt j h)

pub source_output : (x : ℕ) → x < word_bits → source_bit (output_place x) ≡ x
unfolding source_bit output_place
source_output x h = eqb→eq (source_bit (output_place x)) x (below_all word_bits (λ x. eqb (source_bit (output_place x)) x) tt x h)

pub source_lt : (j : ℕ) → source_bit j < word_bits
unfolding source_bit
source_lt j = mod-lt (11 * j + 210 * (j * j)) (omega arith)

pub output_lt : (x : ℕ) → output_place x < word_bits
unfolding output_place
output_lt x = mod-lt (14891 * x + 210 * (x * x)) (omega arith)

-- 210 divides 15,120, so modulo 210 the square term is gone
pub source_mod : (j : ℕ) → source_bit j % 210 ≡ 11 * j % 210
unfolding source_bit
source_mod j = omega arith

pub deinterleave_interleave : (c : ℕ → ℕ) (x : ℕ) → x < word_bits → deinterleave (interleave c) x ≡ c x
unfolding interleave deinterleave
deinterleave_interleave c x h = ap c (source_output x h)

pub interleave_deinterleave : (f : ℕ → ℕ) (j : ℕ) → j < word_bits → interleave (deinterleave f) j ≡ f j
unfolding interleave deinterleave
interleave_deinterleave f j h = ap f (output_source j h)

pub interleave_bits : (c : ℕ → ℕ) → Bits c → Bits (interleave c)
unfolding interleave
interleave_bits c h j = h (source_bit j)

pub deinterleave_bits : (f : ℕ → ℕ) → Bits f → Bits (deinterleave f)
unfolding deinterleave
deinterleave_bits f h x = h (output_place x)

-- moving bits around is linear
pub interleave_plus : (c d : ℕ → ℕ) (j : ℕ) → interleave (λ i. bit_xor (c i) (d i)) j ≡ bit_xor (interleave c j) (interleave d j)
unfolding interleave
interleave_plus c d j = refl

pub deinterleave_plus : (f g : ℕ → ℕ) (x : ℕ) → deinterleave (λ i. bit_xor (f i) (g i)) x ≡ bit_xor (deinterleave f x) (deinterleave g x)
unfolding deinterleave
deinterleave_plus f g x = refl

pub interleave_same : (c d : ℕ → ℕ) → ((x : ℕ) → x < word_bits → c x ≡ d x) → (j : ℕ) → interleave c j ≡ interleave d j
unfolding interleave
interleave_same c d h j = h (source_bit j) (source_lt j)

pub deinterleave_same : (f g : ℕ → ℕ) → ((j : ℕ) → j < word_bits → f j ≡ g j) → (x : ℕ) → deinterleave f x ≡ deinterleave g x
unfolding deinterleave
deinterleave_same f g h x = h (output_place x) (output_lt x)

-- what was taken back out at x stands at place x's source
pub taken_from : (f : ℕ → ℕ) (x : ℕ) → deinterleave f x ≡ f (output_place x)
unfolding deinterleave
taken_from f x = refl
