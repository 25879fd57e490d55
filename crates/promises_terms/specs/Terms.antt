-- The meaning of the terms in which the other promises speak of bits, bytes and lists: each by equations of its own, so that none of them rests on a definition
-- elsewhere. `get_or xs i 0` is element i of a list, or 0 after its end, and `length`, `take`, `drop` and `bit_xor`, the sum of bits place by place, are the kit's.
-- The terms of questions and answers are in Answers.
use Rattle.std.specs.Prelude.{◌≡◌, Bool, true, false, List, ℕ, suc, ◌+◌, ◌-◌, ◌*◌, ◌/◌, ◌%◌, ◌^◌, ◌≤◌, ◌<◌, length, get_or, take, drop}
use Rattle.std.specs.Int.Bits.{bit_xor}
use Rattle.bits.specs.Basics.{bool, pick, tab, up_to}
use Rattle.bits.specs.Pack.{val, bit_at, bytes_of, cut, Bytes, Bits, plus, piece}
use Rattle.bits.specs.Count.{differences, weight, xor_sum}

-- ---- bits and bytes

-- "All packing is most significant bit first": bit t of byte i, from its highest; and the number that n bits make, the first highest
abbrev pub BitAtIs : Type 0
BitAtIs = (xs : List ℕ) (i t : ℕ) → t < 8 → bit_at xs (8 * i + t) ≡ get_or xs i 0 / 2 ^ (7 - t) % 2

abbrev pub ValIs : Type 0
ValIs = (f : ℕ → ℕ) (n : ℕ) → (val f 0 ≡ 0) × (val f (suc n) ≡ val f n * 2 + f n)

-- the n bytes whose bits are f 0, f 1, ..
abbrev pub BytesOfIs : Type 0
BytesOfIs = (n : ℕ) (f : ℕ → ℕ) → (length (bytes_of n f) ≡ n) × ((i : ℕ) → i < n → get_or (bytes_of n f) i 0 ≡ val (λ t. f (8 * i + t)) 8)

-- the first m bits of x, and zeros after them
abbrev pub CutIs : Type 0
CutIs = (m : ℕ) (x : ℕ → ℕ) (i : ℕ) → (i < m → cut m x i ≡ x i) × (m ≤ i → cut m x i ≡ 0)

-- the elements are bytes; the values are bits
abbrev pub BytesIs : Type 0
BytesIs = (xs : List ℕ) → (Bytes xs → (i : ℕ) → get_or xs i 0 < 256) × (((i : ℕ) → get_or xs i 0 < 256) → Bytes xs)

abbrev pub BitsIs : Type 0
BitsIs = (f : ℕ → ℕ) → (Bits f → (i : ℕ) → f i < 2) × (((i : ℕ) → f i < 2) → Bits f)

-- a test as a number, and the choice by a test
abbrev pub BoolIs : Type 0
BoolIs = (bool true ≡ 1) × (bool false ≡ 0)

abbrev pub PickIs : Type 0
PickIs = (a b : List ℕ) → (pick true a b ≡ a) × (pick false a b ≡ b)

-- ---- lists

-- the list f 0, f 1, .. f (n - 1)
abbrev pub TabIs : Type 0
TabIs = (n : ℕ) (f : ℕ → ℕ) → (length (tab n f) ≡ n) × ((i : ℕ) → i < n → get_or (tab n f) i 0 ≡ f i)

-- part j of a slice that is cut into parts of n elements
abbrev pub PieceIs : Type 0
PieceIs = (n : ℕ) (xs : List ℕ) (j : ℕ) → piece n xs j ≡ take n (drop (j * n) xs)

-- the bitwise sum of two slices of one length
abbrev pub PlusIs : Type 0
PlusIs =
    (xs ys : List ℕ) → length ys ≡ length xs
    → (length (plus xs ys) ≡ length xs) × ((i : ℕ) → get_or (plus xs ys) i 0 ≡ bit_xor (get_or xs i 0) (get_or ys i 0))

-- ---- the first that fails, and how many there are

-- the first number below the end that fails a test, and the end where none does
abbrev pub UpToIs : Type 0
UpToIs =
    (p : ℕ → Bool) (end k : ℕ) → k ≤ end → ((i : ℕ) → i < k → p i ≡ true) → (k < end → p k ≡ false) → up_to p 0 end ≡ k

-- f 0 + .. + f (n - 1)
abbrev pub WeightIs : Type 0
WeightIs = (f : ℕ → ℕ) (n : ℕ) → (weight f 0 ≡ 0) × (weight f (suc n) ≡ weight f n + f n)

-- and their sum bit by bit
abbrev pub XorSumIs : Type 0
XorSumIs = (f : ℕ → ℕ) (n : ℕ) → (xor_sum f 0 ≡ 0) × (xor_sum f (suc n) ≡ bit_xor (xor_sum f n) (f n))

-- at how many of the places below n two functions differ
abbrev pub DifferencesIs : Type 0
DifferencesIs =
    (f g : ℕ → ℕ) (n : ℕ)
    → (differences f g 0 ≡ 0)
    × (f n ≡ g n → differences f g (suc n) ≡ differences f g n)
    × ((f n ≡ g n → ⊥) → differences f g (suc n) ≡ differences f g n + 1)

-- ---- what is promised, all of it: the contract of `terms`
pub record Terms : Type 0 where
  pub bit_at_is : BitAtIs
  pub val_is : ValIs
  pub bytes_of_is : BytesOfIs
  pub cut_is : CutIs
  pub bytes_is : BytesIs
  pub bits_is : BitsIs
  pub bool_is : BoolIs
  pub pick_is : PickIs
  pub tab_is : TabIs
  pub piece_is : PieceIs
  pub plus_is : PlusIs
  pub up_to_is : UpToIs
  pub weight_is : WeightIs
  pub xor_sum_is : XorSumIs
  pub differences_is : DifferencesIs
