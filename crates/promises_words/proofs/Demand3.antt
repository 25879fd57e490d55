-- The proofs of demand 3.
use mathlib.Core.Path.{ap}
use Prim.Native.Nat.{ℕ, zero, suc, ◌*◌, ◌≤◌, ◌<◌}
use native.Mathlib.Omega.{arith}
use lib.Bits.{bit_xor}
use Rattle.bits.specs.Basics.{bool}
use Rattle.bits.proofs.Laws.Choice.{bool_lt}
use Rattle.bits.proofs.Laws.Sum.{xor_bit}
use Rattle.bits.specs.Pack.{bit_at}
use Rattle.bits.proofs.Laws.Pack.{bit_lt, bit_bytes, length_bytes}
use Rattle.sizes.specs.Sizes.{info_bits, word_bytes}
use Rattle.convolution.proofs.Laws.Distance.{distance}
use Rattle.word.specs.Word.{word_of}
use Rattle.word.proofs.Laws.Sums as law_of_sums
use Rattle.word.proofs.Laws.Distances as law_of_distances
use Rattle.word.proofs.Laws.Exports.{past_rates}
use Rattle.word.proofs.Laws.Flips as law_of_flips
use Rattle.promises_words.specs.Demand3.{Demand3, Sums, SumBlock, Distances, DistancesTwice, FlipsFound, apart, flipped}

pub sums : Sums
unfolding info_bits
sums zero a b c d h = law_of_sums.sums 0 a b c d (omega arith) h
sums (suc zero) a b c d h = law_of_sums.sums 1 a b c d (omega arith) h
sums (suc (suc r)) a b c d h = rw ((past_rates r a).0, (past_rates r b).0, (past_rates r c).0, (past_rates r d).0) (law_of_sums.sums 2 a b c d (omega arith) h)

pub sum_block : SumBlock
sum_block = law_of_sums.sum_block

pub distances_twice : DistancesTwice
unfolding distance
distances_twice rate a b i l ne =
    let d : rate < 3 → 2 * distance rate ≤ apart rate a b = λ h. law_of_distances.distances rate a b h i l ne in
    (λ e. omega (arith, d (omega arith), ap distance e), λ e. omega (arith, d (omega arith), ap distance e), λ e. omega (arith, d (omega arith), ap distance e))

-- what was asked follows
pub distances : Distances
distances rate a b i l ne =
    let d = distances_twice rate a b i l ne in
    (λ e. omega (arith, d.0 e), λ e. omega (arith, d.1 e), λ e. omega (arith, d.2 e))

pub flips_found : FlipsFound
unfolding flipped
flips_found rate block h flips start within i l f n =
    let bit : ℕ → ℕ = λ j. bit_xor (bit_at (word_of rate block) j) (bool (flips j)) in
    law_of_flips.flips_found rate block h flips start (λ j u o. let r = within j u o in (r.0, omega arith)) i l f (flipped flips (word_of rate block)) (length_bytes word_bytes bit)
    (λ j u. bit_bytes word_bytes bit (λ j. xor_bit (bit_at (word_of rate block) j) (bool (flips j)) (bit_lt (word_of rate block) j) (bool_lt (flips j))) j (omega arith))
    n

-- all of it
pub demand_3 : Demand3
demand_3 = record {
  sums = sums;
  sum_block = sum_block;
  distances = distances;
  distances_twice = distances_twice;
  flips_found = flips_found;
}
