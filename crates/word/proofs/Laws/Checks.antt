-- What the check field adds: differences within 32 consecutive bits change it, and flips within 32 consecutive bits are found by it.
use mathlib.Core.Path.{◌≡◌, sym, ap, ◌∙◌}
use mathlib.Core.Bool.{Bool, true}
use mathlib.Core.List.{List}
use Prim.Native.Nat.{ℕ, ◌+◌, ◌-◌, ◌/◌, ◌%◌, ◌^◌, ◌≤◌, ◌<◌}
use native.Mathlib.Omega.{arith}
use lib.Bits.{bit_xor, xor_zero_r, xor_self}
use borrow.Author.Tests.{ne_eqb}
use Rattle.bits.specs.Basics.{bool}
use Rattle.bits.proofs.Laws.Choice.{bool_lt, bool_yes}
use Rattle.bits.proofs.Laws.Sum.{xor_bit, xor_cancel}
use Rattle.bits.specs.Pack.{Bits, val, bit_at}
use Rattle.bits.proofs.Laws.Pack.{val_same, val_bits, cut_in}
use Rattle.sizes.specs.Sizes.{info_bits, block_bytes}
use Rattle.sizes.specs.Inner.{input_bits}
use Rattle.crc.specs.Check.{register, check_bit}
use Rattle.crc.proofs.Laws.Check.{register_lt, register_same, checked_block_lem, checked_check}
use Rattle.crc.proofs.Laws.Found.{DifferWithin, registers_differ, field_zero}
use Rattle.answers.specs.Answer.{No}
use Rattle.word.specs.Word.{taken_in, checked_block, check_field, carried_on, coded_in, input_in, check_right, word_read_says}
use Rattle.word.proofs.Laws.Word as Laws
use Rattle.word.proofs.Laws.Answers as Answers

-- the k bits, as step 2 took them in, stand first; the check field is what stands in the 32 places after them
pub taken_first : (rate : ℕ) (block : List ℕ) (i : ℕ) → i < info_bits rate → checked_block rate block i ≡ taken_in block i
unfolding checked_block
taken_first rate block i l = checked_block_lem (info_bits rate) (taken_in block) i l

pub field_behind : (rate : ℕ) (block : List ℕ) → val (λ t. checked_block rate block (info_bits rate + t)) 32 ≡ check_field rate block
unfolding checked_block check_field check_bit
field_behind rate block =
    let k : ℕ = info_bits rate in
    let r : ℕ = register (taken_in block) k in
    val_same (λ t. checked_block rate block (k + t)) (λ t. r / 2 ^ (32 - 1 - t) % 2) 32 (λ t l.
    let e : k + t - k ≡ t = omega arith in
    checked_check k (taken_in block) (k + t) (omega arith) ∙ ap (check_bit r) e)
    ∙ val_bits r 32 (register_lt (taken_in block) (Laws.taken_bits block) k)

-- blocks that differ, and only within 32 consecutive bits, have different check fields
pub checks_differ : (rate : ℕ) (a b : List ℕ) (start : ℕ) → DifferWithin (bit_at a) (bit_at b) (info_bits rate) start
    → (i : ℕ) → i < info_bits rate → (bit_at a i ≡ bit_at b i → ⊥) → check_field rate a ≡ check_field rate b → ⊥
unfolding check_field
checks_differ rate a b start within i l ne =
    registers_differ (taken_in a) (taken_in b) (Laws.taken_bits a) (Laws.taken_bits b) (info_bits rate) start
    (λ j u no. within j u (λ e. no (Laws.taken_same a b j e))) i l (λ e. ne (Laws.taken_one a b i e))

-- k + 32 bits whose last 32 are the check of the others leave a register of zeros, as the block with its check does
pub zero_behind : (rate : ℕ) (block : List ℕ) → register (checked_block rate block) (info_bits rate + 32) ≡ 0
unfolding check_field
zero_behind rate block =
    let k : ℕ = info_bits rate in
    field_zero (checked_block rate block) (Laws.checked_block_bits rate block) k
    (field_behind rate block ∙ sym (register_same (checked_block rate block) (taken_in block) k (taken_first rate block)))

-- one or more flips within 32 consecutive bits of the block with its check, carried on from step 3: the reader says 15
pub check_finds : (rate : ℕ) (block : List ℕ) → rate < 3 → (flips : ℕ → Bool) (start : ℕ)
    → ((j : ℕ) → j < info_bits rate + 32 → flips j ≡ true → (start ≤ j) × (j < start + 32))
    → (i : ℕ) → i < info_bits rate + 32 → flips i ≡ true
    → (n : ℕ) → n ≡ block_bytes rate
    → word_read_says rate (carried_on rate (λ j. bit_xor (checked_block rate block j) (bool (flips j)))) n ≡ No 15 0
unfolding check_right input_bits
check_finds rate block h flips start within i l f n size =
    Answers.read_judged rate word n h (Laws.carried_length rate y) size
    ∙ Answers.judged_check rate (coded_in word) z (Laws.carried_13 rate y by h) (Laws.carried_14 rate y by h)
    (ne_eqb (val (λ t. z (k + t)) 32) (register z k) wrong)
  where
    k : ℕ
    k = info_bits rate

    x : ℕ → ℕ
    x = checked_block rate block

    y : ℕ → ℕ
    y j = bit_xor (x j) (bool (flips j))

    word : List ℕ
    word = carried_on rate y

    z : ℕ → ℕ
    z = input_in rate word

    bx : Bits x
    bx = Laws.checked_block_bits rate block

    by : Bits y
    by j = xor_bit (x j) (bool (flips j)) (bx j) (bool_lt (flips j))

    -- the first k + 32 bits that are read are those that were carried on
    read : (j : ℕ) → j < k + 32 → z j ≡ y j
    read j u = Laws.carried_input rate y by h j (omega arith) ∙ cut_in (k + 32) y j u

    flipped : (j : ℕ) → (x j ≡ y j → ⊥) → flips j ≡ true
    flipped j ne = bool_yes (flips j) (λ q. ne (sym (ap (bit_xor (x j)) q ∙ xor_zero_r (x j))))

    moved : x i ≡ y i → ⊥
    moved e =
        let one : bool (flips i) ≡ 1 = ap bool f in
        let none : bool (flips i) ≡ 0 = sym (xor_cancel (x i) (bool (flips i))) ∙ ap (bit_xor (x i)) (sym e) ∙ xor_self (x i) in
        omega arith

    wrong : val (λ t. z (k + t)) 32 ≡ register z k → ⊥
    wrong e =
        registers_differ x y bx by (k + 32) start (λ j u ne. within j u (flipped j ne)) i l moved
        (zero_behind rate block ∙ sym (field_zero y by k (
        val_same (λ t. y (k + t)) (λ t. z (k + t)) 32 (λ t u. sym (read (k + t) (omega arith)))
        ∙ e
        ∙ register_same z y k (λ t u. read t (omega arith)))))
