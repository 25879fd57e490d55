-- The coded bits of blocks that differ differ in many places: in twice the code's free distance.
--
-- The difference of two blocks with their checks leaves a register of zeros, so it is not all within 32 input bits.
use mathlib.Core.Path.{◌≡◌, sym, ap₂, ◌∙◌}
use mathlib.Core.List.{List}
use mathlib.Core.Logic.{⊎_elim}
use Prim.Native.Nat.{ℕ, ◌+◌, ◌*◌, ◌≤◌, ◌<◌}
use native.Mathlib.Omega.{arith}
use lib.Bits.{bit_xor}
use Rattle.bits.proofs.Laws.Choice.{bit_cases}
use Rattle.bits.proofs.Laws.First.{FarOnes}
use Rattle.bits.proofs.Laws.Pack.{cut_in}
use Rattle.bits.proofs.Laws.Sum.{xor_bit, same_xor}
use Rattle.bits.specs.Pack.{bit_at, Bits}
use Rattle.bits.specs.Count.{differences, weight}
use Rattle.bits.proofs.Laws.Weight.{differences_weight, differences_same, weight_same}
use Rattle.sizes.specs.Sizes.{info_bits, word_bits}
use Rattle.crc.specs.Check.{register}
use Rattle.crc.proofs.Laws.Check.{register_same}
use Rattle.crc.proofs.Laws.Difference.{registers_plus}
use Rattle.crc.proofs.Laws.Found.{spans}
use Rattle.convolution.specs.Code.{encode}
use Rattle.convolution.proofs.Laws.Code.{encode_bits, encode_plus}
use Rattle.convolution.proofs.Laws.Distance.{distance, weight_twice}
use Rattle.word.specs.Word.{checked_block, input_of, word_of, coded_in}
use Rattle.word.proofs.Laws.Word as Laws
use Rattle.word.proofs.Laws.Checks.{zero_behind}

-- the input bits of a block leave a register of zeros
input_zero : (rate : ℕ) (block : List ℕ) → register (input_of rate block) (info_bits rate + 32) ≡ 0
unfolding input_of
input_zero rate block =
    let n : ℕ = info_bits rate + 32 in
    register_same (input_of rate block) (checked_block rate block) n (cut_in n (checked_block rate block)) ∙ zero_behind rate block

pub distances : (rate : ℕ) (a b : List ℕ) → rate < 3 → (i : ℕ) → i < info_bits rate → (bit_at a i ≡ bit_at b i → ⊥)
    → 2 * distance rate ≤ differences (coded_in (word_of rate a)) (coded_in (word_of rate b)) word_bits
distances rate a b h i l ne =
    let x : ℕ → ℕ = input_of rate a in
    let y : ℕ → ℕ = input_of rate b in
    let bx : Bits x = Laws.input_bits_lem rate a in
    let by : Bits y = Laws.input_bits_lem rate b in
    let δ : ℕ → ℕ = λ i. bit_xor (x i) (y i) in
    let bδ : Bits δ = λ i. xor_bit (x i) (y i) (bx i) (by i) in
    let zero_at_lem : (i : ℕ) → info_bits rate + 32 ≤ i → δ i ≡ 0 = λ i u. ap₂ bit_xor (Laws.input_end rate a i u) (Laws.input_end rate b i u) in
    let one : δ i ≡ 1 =
    ⊎_elim
    (λ (z : δ i ≡ 0). absurd (ne (Laws.taken_one a b i (sym (Laws.input_block rate a i l) ∙ same_xor (x i) (y i) z ∙ Laws.input_block rate b i l))))
    (λ (o : δ i ≡ 1). o)
    (bit_cases (δ i) (bδ i)) in
    let count : differences (coded_in (word_of rate a)) (coded_in (word_of rate b)) word_bits ≡ weight (encode rate δ) word_bits =
    differences_same (coded_in (word_of rate a)) (coded_in (word_of rate b)) (encode rate x) (encode rate y) word_bits (Laws.coded_written rate a) (Laws.coded_written rate b)
    ∙ differences_weight (encode rate x) (encode rate y) (encode_bits rate x bx) (encode_bits rate y by) word_bits
    ∙ weight_same (λ j. bit_xor (encode rate x j) (encode rate y j)) (encode rate δ) word_bits (λ j k. sym (encode_plus rate x y j)) in
    let apart : FarOnes δ (info_bits rate + 32) =
    spans δ bδ (info_bits rate + 32) (sym (registers_plus x y bx by (info_bits rate + 32)) ∙ ap₂ bit_xor (input_zero rate a) (input_zero rate b)) i (omega arith) one in
    rw count (weight_twice δ bδ rate h (zero_at_lem (info_bits rate + 32) (omega arith)) (zero_at_lem (info_bits rate + 33) (omega arith)) apart)
