-- Words: the 15,120 bits made from one information block by step 7 and then steps 2 to 6, the way back, and the questions that the two calls put.
-- Only the proofs of this crate may open these definitions, and `tests/believed` holds the others to it: the crates above know them by the laws of
-- `proofs/Laws`, and `promises_words` has what the customer is promised of them.
use Rattle.std.specs.Prelude.{◌≡◌, Bool, List, ℕ, ◌+◌, ◌*◌, ◌≤◌, ◌<◌, ltb, eqb, length}
use Rattle.bits.specs.Basics.{both, up_to}
use Rattle.bits.specs.Pack.{val, bit_at, bytes_of, cut}
use Rattle.sizes.specs.Sizes.{info_bits, block_bytes, word_bits, word_bytes}
use Rattle.crc.specs.Check.{register, checked}
use Rattle.convolution.specs.Code.{terminated, encode, decode}
use Rattle.interleaver.specs.Interleaver.{interleave, deinterleave}
use Rattle.accumulator.specs.Accumulator.{accumulate, differentiate}
use Rattle.randomizer.specs.Randomizer.{randomize}
use Rattle.answers.specs.Answer.{Answer, ask, then}

-- ---- from a block to its word

-- step 7, which comes first and starts anew at each block: its bits, as step 2 takes them in
unfoldable pub taken_in : List ℕ → ℕ → ℕ
taken_in block = randomize (bit_at block)

-- step 2: the k bits, and their check after them
unfoldable pub checked_block : ℕ → List ℕ → ℕ → ℕ
checked_block rate block = checked (info_bits rate) (taken_in block)

-- that check, as a number
unfoldable pub check_field : ℕ → List ℕ → ℕ
check_field rate block = register (taken_in block) (info_bits rate)

-- step 3: and two zero termination bits
unfoldable pub input_of : ℕ → List ℕ → ℕ → ℕ
input_of rate block = terminated (info_bits rate + 32) (checked_block rate block)

-- step 4: the 15,120 coded bits
unfoldable pub coded_of : ℕ → List ℕ → ℕ → ℕ
coded_of rate block = encode rate (input_of rate block)

-- steps 5 and 6: the accumulator's output is the word
unfoldable pub shuffled : (ℕ → ℕ) → ℕ → ℕ
shuffled coded = accumulate (interleave coded)

unfoldable pub word_of : ℕ → List ℕ → List ℕ
word_of rate block = bytes_of word_bytes (shuffled (coded_of rate block))

-- steps 3 to 6 of any k + 32 bits
unfoldable pub carried_on : ℕ → (ℕ → ℕ) → List ℕ
carried_on rate x = bytes_of word_bytes (shuffled (encode rate (terminated (info_bits rate + 32) x)))

-- ---- from a word back to its block

-- the coded bits taken back out: steps 6 and 5 undone, the last first
unfoldable pub coded_in : List ℕ → ℕ → ℕ
coded_in word = deinterleave (differentiate (bit_at word))

-- the input bits, from the second output alone
unfoldable pub input_in : ℕ → List ℕ → ℕ → ℕ
input_in rate word = decode rate (coded_in word)

-- k bits, packed, and the two spare bits 0
unfoldable pub packed_block : ℕ → (ℕ → ℕ) → List ℕ
packed_block rate x = bytes_of (block_bytes rate) (cut (info_bits rate) x)

-- the block: the first k input bits, with step 7 undone
unfoldable pub block_in : ℕ → List ℕ → List ℕ
block_in rate word = packed_block rate (randomize (input_in rate word))

-- two packings of the same k bits: whatever their spare bits
abbrev pub SameBits : ℕ → List ℕ → List ℕ → Type 0
SameBits rate a b = (i : ℕ) → i < info_bits rate → bit_at a i ≡ bit_at b i

-- spare bits of 0
abbrev pub SpareZero : ℕ → List ℕ → Type 0
SpareZero rate block = (i : ℕ) → info_bits rate ≤ i → i < 8 * block_bytes rate → bit_at block i ≡ 0

-- ---- the questions

-- question 13, of coded bits c and the input bits x that were read from them: do these make coded bit j? And the first that they do not
unfoldable pub agrees : ℕ → (ℕ → ℕ) → (ℕ → ℕ) → ℕ → Bool
agrees rate c x j = eqb (c j) (encode rate x j)

unfoldable pub first_wrong : ℕ → (ℕ → ℕ) → (ℕ → ℕ) → ℕ
first_wrong rate c x = up_to (agrees rate c x) 0 word_bits

-- question 14: are both termination bits zero?
unfoldable pub ends_in_zeros : ℕ → (ℕ → ℕ) → Bool
ends_in_zeros rate x = both (eqb (x (info_bits rate + 32)) 0) (eqb (x (info_bits rate + 33)) 0)

-- question 15: is the check right?
unfoldable pub check_right : ℕ → (ℕ → ℕ) → Bool
check_right rate x = eqb (val (λ i. x (info_bits rate + i)) 32) (register x (info_bits rate))

-- the writer: questions 2 and 8; the block's spare bits are not looked at
unfoldable pub word_write_says : ℕ → List ℕ → ℕ → Answer
word_write_says rate block word_length =
    then (ask (ltb rate 3) 2 0)
    (ask (both (eqb (length block) (block_bytes rate)) (eqb word_length word_bytes)) 8 0)

-- the reader: questions 13, 14 and 15, and before them 2 and 8
unfoldable pub judged : ℕ → (ℕ → ℕ) → (ℕ → ℕ) → Answer
judged rate c x =
    then (ask (eqb (first_wrong rate c x) word_bits) 13 (first_wrong rate c x))
    (then (ask (ends_in_zeros rate x) 14 0)
    (ask (check_right rate x) 15 0))

unfoldable pub word_read_says : ℕ → List ℕ → ℕ → Answer
word_read_says rate word block_length =
    then (ask (ltb rate 3) 2 0)
    (then (ask (both (eqb (length word) word_bytes) (eqb block_length (block_bytes rate))) 8 0)
    (judged rate (coded_in word) (input_in rate word)))
