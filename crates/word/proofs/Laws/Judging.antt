-- Questions 13 to 15 as the reader's code puts them: to the place that the code's reader found, to the number of the last 34 input bits, and to a check.
use mathlib.Core.Path.{◌≡◌, refl, sym, ap, ◌∙◌}
use mathlib.Core.List.{List}
use mathlib.Core.Logic.{⊎_elim}
use Prim.Native.Nat.{ℕ, ◌+◌, ◌-◌, ◌*◌, ◌/◌, ◌%◌, ◌^◌, ◌<◌}
use native.Mathlib.Omega.{arith}
use lib.Bits.{bit_and, and_mask}
use lib.Dec.{eqb}
use lib.ListN.{length}
use borrow.Author.Tests.{eq-eqb}
use Rattle.bits.proofs.Laws.Choice.{bit_cases}
use Rattle.bits.specs.Basics.{up_to}
use Rattle.bits.specs.Pack.{Bits, val, bit_at}
use Rattle.bits.proofs.Laws.Pack.{val_same}
use Rattle.bits.proofs.Laws.Parts.{val_split}
use Rattle.sizes.specs.Sizes.{info_bits, word_bits}
use Rattle.sizes.specs.Inner.{input_bits}
use Rattle.sizes.proofs.Laws.Rate.{info_ge}
use Rattle.crc.specs.Check.{register}
use Rattle.crc.proofs.Laws.Check.{register_same}
use Rattle.convolution.specs.Code.{encode}
use Rattle.answers.specs.Answer.{No, ask, then}
use Rattle.word.specs.Word.{agrees, first_wrong, ends_in_zeros, check_right, judged}
use Rattle.word.proofs.Laws.Answers as Answers

module _ (rate : ℕ) (c x : ℕ → ℕ) (at : ℕ) (found : at ≡ up_to (λ j. eqb (c j) (encode rate x j)) 0 word_bits) where
  wrong : at ≡ first_wrong rate c x
  unfolding first_wrong agrees
  wrong = found

  pub says_13 : (at ≡ word_bits → ⊥) → No 13 at ≡ judged rate c x
  says_13 ne = ap (λ (q : ℕ). No 13 q) wrong ∙ sym (Answers.judged_miscoded rate c x (λ e. ne (wrong ∙ e)))

  -- the last 34 input bits: the check field, and two bits more
  module _ (all : at ≡ word_bits) (input : List ℕ) (size : 8 * length input ≡ input_bits rate) (same : (i : ℕ) → i < input_bits rate → bit_at input i ≡ x i) (bits : Bits x)
      (end : ℕ) (held : end ≡ val (λ t. bit_at input (8 * (length input - 8) + 30 + t)) 34) where
    k : ℕ
    k = info_bits rate

    tail : ℕ → ℕ
    tail t = x (k + t)

    parts : end ≡ val tail 32 * 2 ^ 2 + (x (k + 32) * 2 + x (k + 33))
    unfolding k tail input_bits val
    parts =
        let two : val (λ t. tail (32 + t)) 2 ≡ x (info_bits rate + 32) * 2 + x (info_bits rate + 33) = omega arith in
        held
        ∙ val_same (λ t. bit_at input (8 * (length input - 8) + 30 + t)) tail 34 (λ t l.
        let e : 8 * (length input - 8) + 30 + t ≡ info_bits rate + t = omega (arith, info_ge rate) in
        ap (bit_at input) e ∙ same (info_bits rate + t) (omega arith))
        ∙ val_split tail 32 2
        ∙ ap (λ (v : ℕ). val tail 32 * 2 ^ 2 + v) two

    zeros : bit_and end 3 ≡ x (k + 32) * 2 + x (k + 33)
    zeros = and_mask end 2 ∙ ap (λ (v : ℕ). v % 2 ^ 2) parts ∙ (let a = bits (k + 32) in let b = bits (k + 33) in omega arith)

    field : end / 2 ^ 2 ≡ val (λ t. x (info_bits rate + t)) 32
    unfolding k tail
    field = ap (λ (v : ℕ). v / 2 ^ 2) parts ∙ (let a = bits (k + 32) in let b = bits (k + 33) in omega arith)

    ends : ends_in_zeros rate x ≡ eqb (bit_and end 3) 0
    unfolding k ends_in_zeros
    ends =
        rw zeros
        (⊎_elim
        (λ (a : x (k + 32) ≡ 0). ⊎_elim (λ (b : x (k + 33) ≡ 0). rw (a, b) refl) (λ (b : x (k + 33) ≡ 1). rw (a, b) refl) (bit_cases (x (k + 33)) (bits (k + 33))))
        (λ (a : x (k + 32) ≡ 1). ⊎_elim (λ (b : x (k + 33) ≡ 0). rw (a, b) refl) (λ (b : x (k + 33) ≡ 1). rw (a, b) refl) (bit_cases (x (k + 33)) (bits (k + 33))))
        (bit_cases (x (k + 32)) (bits (k + 32))))

    -- what is left of the questions once 13 is answered yes
    pub says_rest : judged rate c x ≡ then (ask (eqb (bit_and end 3) 0) 14 0) (ask (check_right rate x) 15 0)
    unfolding judged
    says_rest = rw (eq-eqb (first_wrong rate c x) word_bits (sym wrong ∙ all), ends) refl

    pub says_check : (check m : ℕ) → m ≡ info_bits rate → check ≡ register (bit_at input) m → check_right rate x ≡ eqb (end / 2 ^ 2) check
    unfolding check_right input_bits
    says_check check m em ec =
        let e : check ≡ register x (info_bits rate) = ec ∙ ap (register (bit_at input)) em ∙ register_same (bit_at input) x (info_bits rate) (λ i l. same i (omega arith)) in
        rw (field, e) refl
