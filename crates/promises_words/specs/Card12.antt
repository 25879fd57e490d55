-- Card 12. What the check field adds: any difference, and any flips, within 32 consecutive bits.
--
-- An information block is the k bits of a packed block (`info_bits`), and `bit_at` is bit i of packed bytes. `taken_in` is the block as step 2 takes it
-- in, `checked_block` these k bits followed by their check, `check_field` that check as a number. `carried_on` is steps 3 to 6 of any k + 32 bits.
use Rattle.std.specs.Prelude.{◌≡◌, Bool, true, List, ℕ, ◌+◌, ◌≤◌, ◌<◌}
use Rattle.std.specs.Int.Bits.{bit_xor}
use Rattle.bits.specs.Basics.{bool}
use Rattle.bits.specs.Pack.{bit_at, bytes_of, val}
use Rattle.answers.specs.Answer.{No}
use Rattle.sizes.specs.Sizes.{info_bits, block_bytes}
use Rattle.convolution.specs.Code.{terminated, encode}
use Rattle.interleaver.specs.Interleaver.{interleave}
use Rattle.accumulator.specs.Accumulator.{accumulate}
use Rattle.randomizer.specs.Randomizer.{sequence}
use Rattle.word.specs.Word.{taken_in, checked_block, check_field, carried_on, word_of, word_read_says}

-- "If two blocks of one rate differ, and only within 32 consecutive bits, their check fields differ." They differ in bit i, and the 32 begin with
-- bit `start`, wherever that is.
abbrev pub ChecksDiffer : Type 0
ChecksDiffer =
    (rate : ℕ) (a b : List ℕ) (start : ℕ)
    → ((j : ℕ) → j < info_bits rate → (bit_at a j ≡ bit_at b j → ⊥) → (start ≤ j) × (j < start + 32))
    → (i : ℕ) → i < info_bits rate → (bit_at a i ≡ bit_at b i → ⊥)
    → check_field rate a ≡ check_field rate b → ⊥

-- "Flip one or more bits within 32 consecutive bits of a block, as step 2 took it in, followed by its check, carry on from step 3, and the word
-- reader, at that rate and lent the right length for the block, answers 15." The place is 0. Bit i is one that is flipped; the 32 begin with bit
-- `start`, in the block, across its end or in the check.
abbrev pub CheckFinds : Type 0
CheckFinds =
    (rate : ℕ) (block : List ℕ) → rate < 3 → (flips : ℕ → Bool) (start : ℕ)
    → ((j : ℕ) → j < info_bits rate + 32 → flips j ≡ true → (start ≤ j) × (j < start + 32))
    → (i : ℕ) → i < info_bits rate + 32 → flips i ≡ true
    → (n : ℕ) → n ≡ block_bytes rate
    → word_read_says rate (carried_on rate (λ j. bit_xor (checked_block rate block j) (bool (flips j)))) n ≡ No 15 0

-- ---- both speak of the steps that make words

-- the word of a block is the block, as step 2 took it in, followed by its check, and carried on from step 3
abbrev pub WordCarriedOn : Type 0
WordCarriedOn = (rate : ℕ) (block : List ℕ) → word_of rate block ≡ carried_on rate (checked_block rate block)

-- what step 2 takes in is step 7 of the block: each bit plus that of the sequence
abbrev pub TakenInIs : Type 0
TakenInIs = (block : List ℕ) (i : ℕ) → taken_in block i ≡ bit_xor (bit_at block i) (sequence i)

-- carrying on is step 3, after the k + 32 bits, then 4, 5 and 6, each of which Card3 has in figures, and 1,890 bytes
abbrev pub CarriedOnIs : Type 0
CarriedOnIs = (rate : ℕ) (x : ℕ → ℕ) → carried_on rate x ≡ bytes_of 1890 (accumulate (interleave (encode rate (terminated (info_bits rate + 32) x))))

-- the block's k bits come first
abbrev pub BlockFirst : Type 0
BlockFirst = (rate : ℕ) (block : List ℕ) (i : ℕ) → i < info_bits rate → checked_block rate block i ≡ taken_in block i

-- and the check field is what is in the 32 places after them
abbrev pub FieldBehind : Type 0
FieldBehind = (rate : ℕ) (block : List ℕ) → val (λ t. checked_block rate block (info_bits rate + t)) 32 ≡ check_field rate block

-- ---- what is promised, all of it: the contract of `card_12`
pub record Card12 : Type 0 where
  pub checks_differ : ChecksDiffer
  pub check_finds : CheckFinds
  pub word_carried_on : WordCarriedOn
  pub taken_in_is : TakenInIs
  pub carried_on_is : CarriedOnIs
  pub block_first : BlockFirst
  pub field_behind : FieldBehind
