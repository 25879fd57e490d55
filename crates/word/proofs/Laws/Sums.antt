-- The word of the sum of three blocks is the sum of their words.
use mathlib.Core.Path.{◌≡◌, sym, ap, ap₂, ◌∙◌}
use mathlib.Core.List.{List}
use Prim.Native.Nat.{ℕ, ◌<◌}
use lib.Bits.{bit_xor}
use lib.ListN.{length}
use Rattle.bits.proofs.Laws.Sum.{sum3}
use Rattle.bits.specs.Pack.{bit_at, plus}
use Rattle.bits.proofs.Laws.Pack.{length_plus, bit_plus, bytes_plus}
use Rattle.sizes.specs.Sizes.{info_bits, word_bytes}
use Rattle.answers.specs.Answer.{Done}
use Rattle.word.specs.Word.{coded_of, word_of, word_write_says}
use Rattle.word.proofs.Laws.Word as Laws
use Rattle.word.proofs.Laws.Answers as Answers

-- the bits of a sum of three
plus3_bit : (a b c : List ℕ) → length b ≡ length a → length c ≡ length (plus a b) → (j : ℕ) → bit_at (plus (plus a b) c) j ≡ sum3 (bit_at a j) (bit_at b j) (bit_at c j)
plus3_bit a b c e f j = bit_plus (plus a b) c f j ∙ ap (λ (v : ℕ). bit_xor v (bit_at c j)) (bit_plus a b e j)

-- four blocks, the fourth's k bits the sums of the three's; the spare bits of all four are free
pub sums : (rate : ℕ) (a b c d : List ℕ) → rate < 3 → ((i : ℕ) → i < info_bits rate → bit_at d i ≡ sum3 (bit_at a i) (bit_at b i) (bit_at c i))
    → word_of rate d ≡ plus (plus (word_of rate a) (word_of rate b)) (word_of rate c)
sums rate a b c d h bits =
    let wa : List ℕ = word_of rate a in
    let wb : List ℕ = word_of rate b in
    let wc : List ℕ = word_of rate c in
    let ma : length wa ≡ word_bytes = Laws.word_length_lem rate a in
    let lwb : length wb ≡ length wa = Laws.word_length_lem rate b ∙ sym ma in
    let lwc : length wc ≡ length (plus wa wb) = Laws.word_length_lem rate c ∙ sym ma ∙ sym (length_plus wa wb) in
    sym (Laws.word_is rate d (plus (plus wa wb) wc)
    (length_plus (plus wa wb) wc ∙ length_plus wa wb ∙ ma)
    (bytes_plus (plus wa wb) wc lwc (bytes_plus wa wb lwb (Laws.word_bytes_lem rate a) (Laws.word_bytes_lem rate b)) (Laws.word_bytes_lem rate c))
    (λ j l.
    plus3_bit wa wb wc lwb lwc j
    ∙ ap₂ bit_xor (ap₂ bit_xor (Laws.word_bit_lem rate a j l) (Laws.word_bit_lem rate b j l)) (Laws.word_bit_lem rate c j l)
    ∙ sym (Laws.shuffled_sum3 (coded_of rate a) (coded_of rate b) (coded_of rate c) j)
    ∙ sym (Laws.shuffled_same (coded_of rate d) (λ x. sum3 (coded_of rate a x) (coded_of rate b x) (coded_of rate c x)) (Laws.coded_sum3 rate a b c d h bits) j)))

-- the sum of three blocks byte by byte is such a fourth
pub sum_block : (rate : ℕ) (a b c : List ℕ) → word_write_says rate a word_bytes ≡ Done → word_write_says rate b word_bytes ≡ Done → word_write_says rate c word_bytes ≡ Done
    → (word_write_says rate (plus (plus a b) c) word_bytes ≡ Done)
    × ((i : ℕ) → bit_at (plus (plus a b) c) i ≡ sum3 (bit_at a i) (bit_at b i) (bit_at c i))
sum_block rate a b c ea eb ec =
    let pa = Answers.write_accepted rate a word_bytes ea in
    let pb = Answers.write_accepted rate b word_bytes eb in
    let pc = Answers.write_accepted rate c word_bytes ec in
    let lab : length b ≡ length a = pb.block_is ∙ sym pa.block_is in
    let lac : length c ≡ length (plus a b) = pc.block_is ∙ sym pa.block_is ∙ sym (length_plus a b) in (
      Answers.always_written rate (plus (plus a b) c) pa.rate_is (length_plus (plus a b) c ∙ length_plus a b ∙ pa.block_is),
      plus3_bit a b c lab lac,
    )
