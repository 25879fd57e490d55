-- Words with a burst of flipped bits are refused before the reader comes to the check field.
use mathlib.Core.Path.{◌≡◌, refl, sym, ap, ap₂, ◌∙◌}
use mathlib.Core.Bool.{Bool, true, false}
use mathlib.Core.List.{List}
use mathlib.Core.Logic.{◌⊎◌, inl, inr, ⊎_elim}
use Prim.Native.Nat.{ℕ, ◌+◌, ◌≤◌, ◌<◌}
use native.Mathlib.Omega.{arith}
use lib.Bits.{bit_xor}
use lib.ListN.{length}
use Rattle.bits.specs.Basics.{bool}
use Rattle.bits.proofs.Laws.Choice.{bool_lt, bool_true, eq_or_ne}
use Rattle.bits.proofs.Laws.Sum.{xor_cancel, xor_bit}
use Rattle.bits.specs.Pack.{bit_at}
use Rattle.sizes.specs.Sizes.{info_bits, block_bytes, word_bits, word_bytes}
use Rattle.convolution.proofs.Laws.Code.{encode_plus}
use Rattle.interleaver.specs.Interleaver.{deinterleave}
use Rattle.accumulator.specs.Accumulator.{differentiate}
use Rattle.answers.specs.Answer.{number_of}
use Rattle.word.proofs.Laws.Bursts.{burst, no_code}
use Rattle.word.specs.Word.{input_of, word_of, coded_in, input_in, word_read_says, first_wrong, ends_in_zeros}
use Rattle.word.proofs.Laws.Word as Laws
use Rattle.word.proofs.Laws.Answers as Answers

-- none of the set's bits lies outside a burst
abbrev pub WithinBurst : (ℕ → Bool) → ℕ → Type 0
WithinBurst flips start = (j : ℕ) → j < word_bits → flips j ≡ true → (start ≤ j) × (j < start + burst)

-- One or more flipped bits within a burst: the reader says 13 or 14, or 8 where the slice for the block has another length.
pub flips_found : (rate : ℕ) (block : List ℕ) → rate < 3
    → (flips : ℕ → Bool) (start : ℕ) → WithinBurst flips start → (i : ℕ) → i < word_bits → flips i ≡ true
    → (other : List ℕ) → length other ≡ word_bytes → ((j : ℕ) → j < word_bits → bit_at other j ≡ bit_xor (bit_at (word_of rate block) j) (bool (flips j)))
    → (n : ℕ)
    → (n ≡ block_bytes rate → (number_of (word_read_says rate other n) ≡ 13) ⊎ (number_of (word_read_says rate other n) ≡ 14))
    × ((n ≡ block_bytes rate → ⊥) → number_of (word_read_says rate other n) ≡ 8)
flips_found rate block h flips start within i l f other size differ n = (
  λ q. cases (eq_or_ne (first_wrong rate (coded_in other) (input_in rate other)) word_bits) q,
  λ q. ap number_of (Answers.read_block_length rate other n h size q),
)
  where
    -- with 13 and 14 passed, the read and the written input bits would differ by bits that make exactly the flips
    passed : first_wrong rate (coded_in other) (input_in rate other) ≡ word_bits → ends_in_zeros rate (input_in rate other) ≡ true → ⊥
    passed c z =
        let w : List ℕ = word_of rate block in
        let x : ℕ → ℕ = input_of rate block in
        let y : ℕ → ℕ = input_in rate other in
        let flip : ℕ → ℕ = λ j. bool (flips j) in
        no_code rate h flip (λ j. bool_lt (flips j)) start (λ j u o. within j u (bool_true (flips j) o)) i l (ap bool f)
        (λ j. bit_xor (x j) (y j))
        (λ j. xor_bit (x j) (y j) (Laws.input_bits_lem rate block j) (Laws.input_in_bits rate other j))
        (ap₂ bit_xor (Laws.input_end rate block (info_bits rate + 33) (omega arith)) (Laws.ends_said rate other z).1)
        (λ p u.
        encode_plus rate x y p
        ∙ ap₂ bit_xor (sym (Laws.coded_written rate block p u)) (sym (Laws.coded_said rate other c p u) ∙ Laws.coded_plus w other flip differ p)
        ∙ xor_cancel (coded_in w p) (deinterleave (differentiate flip) p))

    terminated : (t : Bool) → ends_in_zeros rate (input_in rate other) ≡ t → first_wrong rate (coded_in other) (input_in rate other) ≡ word_bits → n ≡ block_bytes rate
        → (number_of (word_read_says rate other n) ≡ 13) ⊎ (number_of (word_read_says rate other n) ≡ 14)
    terminated true z c q = absurd (passed c z)
    terminated false z c q = inr (ap number_of (Answers.read_judged rate other n h size q ∙ Answers.judged_unterminated rate (coded_in other) (input_in rate other) c z))

    cases : (first_wrong rate (coded_in other) (input_in rate other) ≡ word_bits) ⊎ (first_wrong rate (coded_in other) (input_in rate other) ≡ word_bits → ⊥) → n ≡ block_bytes rate
        → (number_of (word_read_says rate other n) ≡ 13) ⊎ (number_of (word_read_says rate other n) ≡ 14)
    cases c q =
        ⊎_elim (λ (y : first_wrong rate (coded_in other) (input_in rate other) ≡ word_bits). terminated (ends_in_zeros rate (input_in rate other)) refl y q)
        (λ (no : first_wrong rate (coded_in other) (input_in rate other) ≡ word_bits → ⊥). inl (ap number_of (Answers.read_judged rate other n h size q ∙ Answers.judged_miscoded rate (coded_in other) (input_in rate other) no))) c
