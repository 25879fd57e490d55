-- Changing one block bit changes the same few coded bits in every block.
use mathlib.Core.Path.{◌≡◌, sym, ap, ap₂, ◌∙◌}
use mathlib.Core.List.{List}
use Prim.Native.Nat.{ℕ, ◌+◌, ◌*◌, ◌≤◌, ◌<◌}
use native.Mathlib.Omega.{arith}
use lib.Bits.{bit_xor}
use lib.Dec.{eqb, ltb}
use lib.ListN.{length}
use borrow.Author.Tests.{ne_eqb}
use Rattle.bits.specs.Basics.{bool}
use Rattle.bits.proofs.Laws.Choice.{bool_lt}
use Rattle.bits.proofs.Laws.Sum.{xor_bit, xor_cancel}
use Rattle.bits.specs.Pack.{Bits, bit_at, flip_bit}
use Rattle.bits.proofs.Laws.Pack.{bit_bytes, length_bytes, cut_in, cut_bits}
use Rattle.bits.proofs.Laws.Change.{flip_bit_lem}
use Rattle.bits.specs.Count.{differences, weight}
use Rattle.bits.proofs.Laws.Weight.{differences_same, differences_weight, weight_same}
use Rattle.sizes.specs.Sizes.{info_bits, block_bytes, word_bits, word_bytes}
use Rattle.sizes.proofs.Laws.Rate.{block_size}
use Rattle.crc.specs.Inner.{checked_change}
use Rattle.crc.proofs.Laws.Difference.{change_block, change_bits}
use Rattle.convolution.specs.Code.{encode}
use Rattle.word.specs.Word.{coded_of, coded_in, word_of}
use Rattle.word.proofs.Laws.Exports.{coded_out, coded_bits, coded_change}
use Rattle.answers.specs.Answer.{ask}
use Rattle.answers.specs.Inner.{Fits}
use Rattle.answers.proofs.Laws.Answer.{fits_ask, fits_then}
use Rattle.spread.specs.Spread.{changes, zero_block, spread_of, spread_says}
use Rattle.spread.proofs.Laws.Few as Few
use Rattle.spread.proofs.Laws.Few.{limit}
use Rattle.spread.specs.Inner.{input_change}

pub change_input_bits : (rate b : ℕ) → Bits (input_change rate b)
unfolding input_change
change_input_bits rate b =
    cut_bits (info_bits rate + 32) (checked_change (info_bits rate) (λ i. bool (eqb i b))) (change_bits (info_bits rate) (λ i. bool (eqb i b)) (λ i. bool_lt (eqb i b)))

-- of the block's bits, it alone
change_alone : (rate b i : ℕ) → i < info_bits rate → (i ≡ b → ⊥) → input_change rate b i ≡ 0
unfolding input_change
change_alone rate b i l ne =
    cut_in (info_bits rate + 32) (checked_change (info_bits rate) (λ i. bool (eqb i b))) i (omega arith)
    ∙ change_block (info_bits rate) (λ i. bool (eqb i b)) i l
    ∙ ap bool (ne_eqb i b ne)

-- whatever the block, the same coded bits change
pub changes_are : (rate : ℕ) (block : List ℕ) (b : ℕ) → rate < 3 → length block ≡ block_bytes rate → b < info_bits rate
    → (j : ℕ) → j < word_bits → changes rate block b j ≡ encode rate (input_change rate b) j
unfolding changes input_change
changes_are rate block b h size l j u =
    let room : b < 8 * length block = omega (arith, block_size rate h) in
    coded_change rate block (flip_bit block b) (λ i. bool (eqb i b)) h (λ i v.
    ap (bit_xor (bit_at block i)) (flip_bit_lem block b i room) ∙ xor_cancel (bit_at block i) (bool (eqb i b))) j u

changes_bits : (rate : ℕ) (block : List ℕ) (b : ℕ) → Bits (changes rate block b)
unfolding changes
changes_bits rate block b j = xor_bit (coded_of rate block j) (coded_of rate (flip_bit block b) j) (coded_bits rate block j) (coded_bits rate (flip_bit block b) j)

pub zero_length : (rate : ℕ) → length (zero_block rate) ≡ block_bytes rate
unfolding zero_block
zero_length rate = length_bytes (block_bytes rate) (λ _. 0)

module _ (rate : ℕ) (b : ℕ) (h : rate < 3) (l : b < info_bits rate) (block : List ℕ) (size : length block ≡ block_bytes rate) where
  pub every_block : (j : ℕ) → j < word_bits → bit_at (spread_of rate b) j ≡ changes rate block b j
  unfolding spread_of
  every_block j u =
      bit_bytes word_bytes (changes rate (zero_block rate) b) (changes_bits rate (zero_block rate) b) j (omega arith)
      ∙ changes_are rate (zero_block rate) b h (zero_length rate) l j u
      ∙ sym (changes_are rate block b h size l j u)

  -- the same of the coded bits taken back out of the two words
  pub every_word : (j : ℕ) → j < word_bits → bit_at (spread_of rate b) j ≡ bit_xor (coded_in (word_of rate block) j) (coded_in (word_of rate (flip_bit block b)) j)
  unfolding changes
  every_word j u = every_block j u ∙ sym (ap₂ bit_xor (coded_out rate block j u) (coded_out rate (flip_bit block b) j u))

  -- few change
  pub few_coded : differences (coded_of rate block) (coded_of rate (flip_bit block b)) word_bits ≤ limit rate
  unfolding changes
  few_coded =
      let count : differences (coded_of rate block) (coded_of rate (flip_bit block b)) word_bits ≡ weight (encode rate (input_change rate b)) word_bits =
      differences_weight (coded_of rate block) (coded_of rate (flip_bit block b)) (coded_bits rate block) (coded_bits rate (flip_bit block b)) word_bits
      ∙ weight_same (changes rate block b) (encode rate (input_change rate b)) word_bits (changes_are rate block b h size l) in
      rw count (Few.few (input_change rate b) (change_input_bits rate b) b rate h l (change_alone rate b))

  pub few_taken_out : differences (coded_in (word_of rate block)) (coded_in (word_of rate (flip_bit block b))) word_bits ≤ limit rate
  few_taken_out =
      rw (differences_same (coded_in (word_of rate block)) (coded_in (word_of rate (flip_bit block b))) (coded_of rate block) (coded_of rate (flip_bit block b)) word_bits
      (coded_out rate block) (coded_out rate (flip_bit block b)))
      few_coded

-- The call's answers fit the number that C gets.

pub spread_fits : (rate b n : ℕ) → Fits (spread_says rate b n)
unfolding spread_says
spread_fits rate b n =
    fits_then (ask (ltb rate 3) 2 0) _ (fits_ask (ltb rate 3) 2 0 (omega arith) (omega arith) (λ z. omega arith))
    (λ e. fits_then (ask (eqb n word_bytes) 8 0) (ask (ltb b (info_bits rate)) 27 0) (fits_ask (eqb n word_bytes) 8 0 (omega arith) (omega arith) (λ z. omega arith))
    (λ f. fits_ask (ltb b (info_bits rate)) 27 0 (omega arith) (omega arith) (λ z. omega arith)))
