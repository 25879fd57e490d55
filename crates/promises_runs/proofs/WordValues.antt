-- Two words in figures: of the one that has bit 2 alone, and of the one that has no bit, the coded bits and what is read from them.
use mathlib.Core.Path.{◌≡◌, refl, sym, ap, ap₂, ◌∙◌}
use mathlib.Core.Bool.{Bool, true, false}
use Prim.Native.Nat.{ℕ, zero, suc, ◌+◌, ◌%◌, ◌≤◌, ◌<◌}
use native.Mathlib.Omega.{arith}
use lib.Bits.{bit_xor, xor_zero_r}
use lib.Dec.{eqb}
use borrow.Author.Tests.{ne_eqb}
use Rattle.bits.specs.Basics.{pick, bool}
use Rattle.bits.specs.Pack.{Bits, val, bit_at, bytes_of}
use Rattle.bits.proofs.Laws.Pack.{length_bytes, bit_bytes, val_same}
use Rattle.bits.proofs.Laws.Choice.{bool_lt}
use Rattle.sizes.specs.Sizes.{info_bits, block_bytes, inputs_per, coded_per}
use Rattle.crc.specs.Check.{register}
use Rattle.crc.specs.Inner.{advances}
use Rattle.crc.proofs.Laws.Bytes.{register_is}
use Rattle.crc.proofs.Laws.Found.{zeros_before}
use Rattle.convolution.specs.Code.{delay, first, second, input_place, encode, second_place, recover, decode}
use Rattle.convolution.proofs.Laws.Code.{recover_same, third_first, two_first}
use Rattle.interleaver.specs.Interleaver.{source_bit, output_place}
use Rattle.interleaver.proofs.Laws.Interleaver.{output_lt, source_output, taken_from}
use Rattle.accumulator.specs.Accumulator.{differentiate}
use Rattle.accumulator.proofs.Laws.Accumulator.{differentiate_same}
use Rattle.word.specs.Word as words
use Rattle.word.specs.Word.{word_read_says}
use Rattle.word.proofs.Laws.Word as word_laws
use Rattle.answers.specs.Answer.{No}
use Rattle.promises_runs.proofs.PlacesHold.{word_place_of_13, word_is_15}
use Rattle.promises_runs.specs.Places.{CodedRight, ReadBitTwo, ZeroWordRefused}

-- ---- the coded bits of a word that is given by its bits

coded_of_lem : (g : ℕ → ℕ) → Bits g → (x : ℕ) → words.coded_in (bytes_of 1890 g) x ≡ differentiate g (output_place x)
coded_of_lem g bits x =
    let at = output_lt x in
    ap (λ (f : ℕ → ℕ). f x) (word_laws.coded_steps (bytes_of 1890 g))
    ∙ taken_from (differentiate (bit_at (bytes_of 1890 g))) x
    ∙ differentiate_same (bit_at (bytes_of 1890 g)) g (output_place x) (λ i l. bit_bytes 1890 g bits i (omega arith))

-- ---- inputs that are read from coded bits of 0 are 0, and make coded bits of 0

recover_zeros2 : (i : ℕ) → (recover (λ k. 0) i ≡ 0) × (recover (λ k. 0) (suc i) ≡ 0)
unfolding recover
recover_zeros2 zero = (refl, refl)
recover_zeros2 (suc i) = let r = recover_zeros2 i in (r.1, ap₂ (λ (p q : ℕ). bit_xor (bit_xor 0 p) q) r.1 r.0)

quiet_input : (rate : ℕ) (c : ℕ → ℕ) (n : ℕ) → ((i : ℕ) → i < n → c (second_place rate i) ≡ 0) → (i : ℕ) → i < n → decode rate c i ≡ 0
unfolding decode
quiet_input rate c n h i l = recover_same (λ i. c (second_place rate i)) (λ k. 0) i (λ k b. h k (omega arith)) ∙ (recover_zeros2 i).0

-- the first input that is not
next_input : (rate : ℕ) (c : ℕ → ℕ) (i : ℕ) → decode rate c i ≡ 0 → decode rate c (suc i) ≡ 0 → decode rate c (suc (suc i)) ≡ c (second_place rate (suc (suc i)))
unfolding decode recover
next_input rate c i a b =
    ap₂ (λ (p q : ℕ). bit_xor (bit_xor (c (second_place rate (suc (suc i)))) p) q) b a
    ∙ xor_zero_r (bit_xor (c (second_place rate (suc (suc i)))) 0) ∙ xor_zero_r (c (second_place rate (suc (suc i))))

first_zero : (x : ℕ → ℕ) (i : ℕ) → ((k : ℕ) → k ≤ i → x k ≡ 0) → first x i ≡ 0
unfolding first delay
first_zero x zero h = ap (λ (b : ℕ). bit_xor b 0) (h 0 (omega arith))
first_zero x (suc zero) h = ap (λ (b : ℕ). bit_xor b 0) (h 1 (omega arith))
first_zero x (suc (suc i)) h = ap₂ bit_xor (h (suc (suc i)) (omega arith)) (h i (omega arith))

second_zero : (x : ℕ → ℕ) (i : ℕ) → ((k : ℕ) → k ≤ i → x k ≡ 0) → second x i ≡ 0
unfolding second delay
second_zero x zero h = ap (λ (b : ℕ). bit_xor (bit_xor b 0) 0) (h 0 (omega arith))
second_zero x (suc zero) h = ap₂ (λ (b c : ℕ). bit_xor (bit_xor b c) 0) (h 1 (omega arith)) (h 0 (omega arith))
second_zero x (suc (suc i)) h =
    ap₂ bit_xor (ap₂ bit_xor (h (suc (suc i)) (omega arith)) (h (suc i) (omega arith))) (h i (omega arith))

quiet_code : (rate : ℕ) (x : ℕ → ℕ) (n : ℕ) → ((i : ℕ) → i < n → x i ≡ 0) → (j : ℕ) → input_place rate j < n → encode rate x j ≡ 0
unfolding encode
quiet_code rate x n h j l =
    let e : (k : ℕ) → k ≤ input_place rate j → x k ≡ 0 = λ k b. h k (omega arith) in
    ap₂ (pick (eqb (j % coded_per rate) 0)) (first_zero x (input_place rate j) e) (second_zero x (input_place rate j) e) ∙ pick_same (eqb (j % coded_per rate) 0)
  where
    pick_same : (t : Bool) → ◌≡◌ {A = ℕ} (pick t 0 0) 0
    pick_same true = refl
    pick_same false = refl

-- ---- bit 2 alone

abbrev two : ℕ → ℕ
two y = bool (eqb y 2)

two_bits : Bits two
two_bits y = bool_lt (eqb y 2)

abbrev coded : ℕ → ℕ
coded = words.coded_in (bytes_of 1890 two)

-- it makes the accumulator's inputs 2 and 3, and these were coded bits 862 and 1923
quiet_step : (j : ℕ) → (j ≡ 2 → ⊥) → (j ≡ 3 → ⊥) → differentiate two j ≡ 0
unfolding differentiate
quiet_step zero a b = refl
quiet_step (suc j) a b =
    let c : j ≡ 2 → ⊥ = λ z. b (omega arith) in
    rw (ne_eqb (suc j) 2 a, ne_eqb j 2 c) refl

quiet_coded : (x : ℕ) → x < 15120 → (x ≡ 862 → ⊥) → (x ≡ 1923 → ⊥) → coded x ≡ 0
unfolding source_bit
quiet_coded x l a b =
    coded_of_lem two two_bits x
    ∙ quiet_step (output_place x) (λ e. a (sym (source_output x l) ∙ ap source_bit e)) (λ e. b (sym (source_output x l) ∙ ap source_bit e))

loud_coded : coded 862 ≡ 1
unfolding output_place differentiate
loud_coded = coded_of_lem two two_bits 862

-- up to a coded bit `end` all is 0, and so is what is read from it
module _ (rate n end : ℕ) (few : end ≤ 862) (near : (i : ℕ) → i < n → (second_place rate i < 1923) × (second_place rate i ≡ 862 → ⊥)) (steps : (j : ℕ) → j < end → input_place rate j < n) where
  input : (i : ℕ) → i < n → decode rate coded i ≡ 0
  input = quiet_input rate coded n (λ i l. let p = near i l in let a = p.0 in quiet_coded (second_place rate i) (omega arith) p.1 (λ z. omega arith))

  right : (j : ℕ) → j < end → CodedRight rate (bytes_of 1890 two) j
  right j l = quiet_coded j (omega arith) (λ z. omega arith) (λ z. omega arith) ∙ sym (quiet_code rate (decode rate coded) n input j (steps j l))

one_zero : (a b : ℕ) → a ≡ 1 → b ≡ 0 → a ≡ b → ⊥
one_zero a b ea eb e = omega arith

-- at 1/3 and 2/3 coded bit 862 is a second output, and the first output before it, 861, is wrong
third : word_read_says 0 (bytes_of 1890 two) 626 ≡ No 13 861
unfolding second_place input_place inputs_per coded_per first delay block_bytes info_bits
third =
    let near : (i : ℕ) → i < 287 → (second_place 0 i < 1923) × (second_place 0 i ≡ 862 → ⊥) = λ i l. (omega arith, λ z. omega arith) in
    let steps : (j : ℕ) → j < 861 → input_place 0 j < 287 = λ j l. omega arith in
    let x : ℕ → ℕ = decode 0 coded in
    let zero285 : x 285 ≡ 0 = input 0 287 861 (omega arith) near steps 285 (omega arith) in
    let zero286 : x 286 ≡ 0 = input 0 287 861 (omega arith) near steps 286 (omega arith) in
    let one : x 287 ≡ 1 = next_input 0 coded 285 zero285 zero286 ∙ loud_coded in
    let made : encode 0 x 861 ≡ 1 = third_first x 287 ∙ ap₂ bit_xor one zero285 in
    (word_place_of_13 0 (bytes_of 1890 two) 626 861).1 (
      (omega arith, length_bytes 1890 two, refl),
      (omega arith, right 0 287 861 (omega arith) near steps, λ e. one_zero (encode 0 x 861) (coded 861) made (quiet_coded 861 (omega arith) (λ z. omega arith) (λ z. omega arith)) (sym e)),
    )

two_thirds : word_read_says 2 (bytes_of 1890 two) 1256 ≡ No 13 861
unfolding second_place input_place inputs_per coded_per first delay block_bytes info_bits
two_thirds =
    let near : (i : ℕ) → i < 574 → (second_place 2 i < 1923) × (second_place 2 i ≡ 862 → ⊥) = λ i l. (omega arith, λ z. omega arith) in
    let steps : (j : ℕ) → j < 861 → input_place 2 j < 574 = λ j l. omega arith in
    let x : ℕ → ℕ = decode 2 coded in
    let zero572 : x 572 ≡ 0 = input 2 574 861 (omega arith) near steps 572 (omega arith) in
    let zero573 : x 573 ≡ 0 = input 2 574 861 (omega arith) near steps 573 (omega arith) in
    let one : x 574 ≡ 1 = next_input 2 coded 572 zero572 zero573 ∙ loud_coded in
    let made : encode 2 x 861 ≡ 1 = two_first x 287 ∙ ap₂ bit_xor one zero572 in
    (word_place_of_13 2 (bytes_of 1890 two) 1256 861).1 (
      (omega arith, length_bytes 1890 two, refl),
      (omega arith, right 2 574 861 (omega arith) near steps, λ e. one_zero (encode 2 x 861) (coded 861) made (quiet_coded 861 (omega arith) (λ z. omega arith) (λ z. omega arith)) (sym e)),
    )

-- at 1/2 it is a first output, and wrong itself
half : word_read_says 1 (bytes_of 1890 two) 941 ≡ No 13 862
unfolding second_place input_place inputs_per coded_per block_bytes info_bits
half =
    let near : (i : ℕ) → i < 432 → (second_place 1 i < 1923) × (second_place 1 i ≡ 862 → ⊥) = λ i l. (omega arith, λ z. omega arith) in
    let steps : (j : ℕ) → j < 862 → input_place 1 j < 432 = λ j l. omega arith in
    let x : ℕ → ℕ = decode 1 coded in
    let made : encode 1 x 862 ≡ 0 = quiet_code 1 x 432 (input 1 432 862 (omega arith) near steps) 862 (omega arith) in
    (word_place_of_13 1 (bytes_of 1890 two) 941 862).1 (
      (omega arith, length_bytes 1890 two, refl),
      (omega arith, right 1 432 862 (omega arith) near steps, λ e. one_zero (coded 862) (encode 1 x 862) loud_coded made e),
    )

pub read_bit_two : ReadBitTwo
read_bit_two = (third, half, two_thirds)

-- ---- no bit at all

abbrev none : ℕ → ℕ
none y = 0

none_coded : (x : ℕ) → words.coded_in (bytes_of 1890 none) x ≡ 0
unfolding differentiate
none_coded x = coded_of_lem none (λ y. omega arith) x ∙ cases (output_place x)
  where
    cases : (j : ℕ) → differentiate none j ≡ 0
    cases zero = refl
    cases (suc j) = refl

module _ (rate : ℕ) where
  abbrev x : ℕ → ℕ
  x = decode rate (words.coded_in (bytes_of 1890 none))

  none_input : (i : ℕ) → x i ≡ 0
  none_input i = quiet_input rate (words.coded_in (bytes_of 1890 none)) (suc i) (λ k l. none_coded (second_place rate k)) i (omega arith)

  -- the register is not 0 after zeros, since it was not before them
  none_check : val (λ i. x (info_bits rate + i)) 32 ≡ register x (info_bits rate) → ⊥
  unfolding val
  none_check e =
      let zeros : val (λ i. x (info_bits rate + i)) 32 ≡ 0 = val_same (λ i. x (info_bits rate + i)) none 32 (λ i l. none_input (info_bits rate + i)) in
      let gone : advances 0xFFFFFFFF x (info_bits rate) ≡ 0 = sym (register_is x (info_bits rate)) ∙ sym e ∙ zeros in
      let z : ◌≡◌ {A = ℕ} 0xFFFFFFFF 0 = zeros_before 0xFFFFFFFF x (omega arith) (λ i. rw (none_input i) (omega arith)) (info_bits rate) (λ i l. none_input i) gone in
      omega arith

  none_read : rate < 3 → word_read_says rate (bytes_of 1890 none) (block_bytes rate) ≡ No 15 0
  none_read h =
      (word_is_15 rate (bytes_of 1890 none) (block_bytes rate) 0).1 (
        (h, length_bytes 1890 none, refl),
        λ j l. none_coded j ∙ sym (quiet_code rate x (suc (input_place rate j)) (λ i k. none_input i) j (omega arith)),
        (none_input (info_bits rate + 32), none_input (info_bits rate + 33)),
        none_check,
        refl,
      )

pub zero_word_refused : ZeroWordRefused
zero_word_refused rate h = none_read rate h
