-- The order of the steps in worked values, so that no definition of the word can put them into another.
use mathlib.Core.Path.{◌≡◌, refl, sym, ap, ◌∙◌}
use mathlib.Core.List.{[]}
use mathlib.Core.Logic.{⊎_elim}
use Prim.Native.Nat.{ℕ, ◌+◌, ◌-◌, ◌*◌, ◌/◌, ◌%◌, ◌^◌, ◌≤◌, ◌<◌}
use native.Mathlib.Omega.{arith}
use native.Mathlib.Nat.{zero-div}
use lib.Bits.{bit_xor}
use lib.Dec.{ltb, eqb}
use borrow.Author.Tests.{lt-ltb, le-ltb}
use Rattle.bits.specs.Basics.{pick, bool}
use Rattle.bits.specs.Pack.{val, bit_at}
use Rattle.bits.proofs.Laws.Choice.{lt_or_le}
use Rattle.bits.proofs.Laws.Pack.{val_same}
use Rattle.sizes.specs.Sizes.{info_bits, inputs_per, coded_per}
use Rattle.crc.specs.Check.{register, checked, advance}
use Rattle.convolution.specs.Code.{delay, first, second, input_place, encode}
use Rattle.convolution.proofs.Laws.Code.{encode_same}
use Rattle.interleaver.specs.Interleaver.{source_bit, interleave}
use Rattle.accumulator.specs.Accumulator.{accumulate}
use Rattle.randomizer.specs.Randomizer.{sequence, window, next, randomize}
use Rattle.randomizer.proofs.Period.{sequence_period}
use Rattle.word.specs.Word.{taken_in, checked_block, input_of, coded_of, shuffled}
use Rattle.word.proofs.Laws.Word.{input_block, shuffled_same}

-- step 7 before step 2: of a block of zeros step 2 takes in step 7's sequence, FF 48 .., and the register after its first 16 bits is this
pub order_example_2 : (val (checked_block 0 []) 16 ≡ 0xFF48) × (register (taken_in []) 16 ≡ 0x9D5BC5BB)
unfolding checked_block checked taken_in register advance randomize sequence window next bit_at info_bits val
order_example_2 = (refl, refl)

-- step 5 before step 6, and nothing after it: coded bit 221 alone goes to place 1, and from there on the accumulator turns every bit over
pub order_example_5 : val (shuffled (λ i. bool (eqb i 221))) 16 ≡ 0x7FFF
unfolding shuffled accumulate interleave source_bit val
order_example_5 = refl

-- ---- all steps: the word of a block of zeros. Its input bits are the sequence's, which repeats after 255: counting it out takes seconds.

by_period : ℕ → ℕ
by_period i = pick (ltb i 5006) (sequence (i % 255)) (input_of 0 [] i)

no_bit : (i : ℕ) → bit_at [] i ≡ 0
unfolding bit_at
no_bit i = ap (λ (b : ℕ). b % 2) (zero-div (2 ^ (7 - i % 8)))

by_period_lem : (i : ℕ) → input_of 0 [] i ≡ by_period i
unfolding taken_in randomize info_bits by_period
by_period_lem i =
    ⊎_elim
    (λ (l : i < 5006).
    let e : i ≡ i % 255 + 255 * (i / 255) = omega arith in
    input_block 0 [] i l
    ∙ ap (λ (b : ℕ). bit_xor b (sequence i)) (no_bit i)
    ∙ ap sequence e
    ∙ sequence_period (i % 255) (i / 255)
    ∙ sym (rw (lt-ltb i 5006 l) refl))
    (λ (l : 5006 ≤ i). sym (rw (le-ltb i 5006 l) refl))
    (lt_or_le i 5006)

-- it begins with the byte CE at rate 1/3
pub order_example : val (shuffled (coded_of 0 [])) 8 ≡ 0xCE
unfolding shuffled accumulate interleave source_bit coded_of encode input_place first second delay inputs_per coded_per info_bits sequence window next val by_period
order_example =
    val_same (shuffled (coded_of 0 [])) (shuffled (encode 0 by_period)) 8 (λ j l.
    shuffled_same (coded_of 0 []) (encode 0 by_period) (λ x k. encode_same 0 (input_of 0 []) by_period (omega arith) (λ i h. by_period_lem i) x k) j)
