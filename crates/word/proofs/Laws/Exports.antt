-- What the crates above may use of words. They cite the names of `Word` and never open them.
use mathlib.Core.Path.{◌≡◌, refl, sym, ap, ◌∙◌}
use mathlib.Core.Bool.{true}
use mathlib.Core.List.{List, [], ◌∷◌}
use Prim.Native.Nat.{ℕ, suc, ◌+◌, ◌<◌}
use lib.Bits.{bit_xor}
use lib.ListN.{length}
use Rattle.bits.specs.Pack.{Bytes, Bits, bit_at}
use Rattle.answers.specs.Answer.{Done, number_of, among}
use Rattle.answers.specs.Inner.{Fits}
use Rattle.sizes.specs.Sizes.{info_bits, block_bytes, word_bits, word_bytes, inputs_per, coded_per}
use Rattle.crc.specs.Inner.{checked_change}
use Rattle.convolution.specs.Code.{terminated, input_place, encode}
use Rattle.word.specs.Word.{SameBits, checked_block, input_of, coded_of, word_of, carried_on, coded_in, block_in, word_write_says, word_read_says}
use Rattle.word.proofs.Laws.Word.{Packed}
use Rattle.word.proofs.Laws.Word as Laws
use Rattle.word.proofs.Laws.Answers as Answers
use Rattle.word.proofs.Laws.Return.{written_read, whole_back, read_written}

-- a word has 1,890 bytes
pub word_length_lem : (rate : ℕ) (block : List ℕ) → length (word_of rate block) ≡ word_bytes
word_length_lem = Laws.word_length_lem

pub word_bytes_lem : (rate : ℕ) (block : List ℕ) → Bytes (word_of rate block)
word_bytes_lem = Laws.word_bytes_lem

-- it is the block with its check after it, carried on from step 3
pub word_carried : (rate : ℕ) (block : List ℕ) → word_of rate block ≡ carried_on rate (checked_block rate block)
word_carried = Laws.word_carried

-- its coded bits are those that come back out of it, and are bits
pub coded_out : (rate : ℕ) (block : List ℕ) (j : ℕ) → j < word_bits → coded_in (word_of rate block) j ≡ coded_of rate block j
coded_out = Laws.coded_out

pub coded_bits : (rate : ℕ) (block : List ℕ) → Bits (coded_of rate block)
coded_bits = Laws.coded_bits

-- where two blocks differ by d, their coded bits differ by what d and the check of d make
pub coded_change : (rate : ℕ) (a b : List ℕ) (d : ℕ → ℕ) → rate < 3 → ((i : ℕ) → i < info_bits rate → bit_xor (bit_at a i) (bit_at b i) ≡ d i)
    → (j : ℕ) → j < word_bits → bit_xor (coded_of rate a j) (coded_of rate b j) ≡ encode rate (terminated (info_bits rate + 32) (checked_change (info_bits rate) d)) j
coded_change = Laws.coded_change

-- two packings of the same k bits give one word
pub word_same : (rate : ℕ) (a b : List ℕ) → rate < 3 → SameBits rate a b → word_of rate a ≡ word_of rate b
word_same = Laws.word_same

-- a number above 2 is no rate and is turned away, but the steps take it as 2
pub past_rates : (r : ℕ) (block : List ℕ) → (word_of (suc (suc r)) block ≡ word_of 2 block) × (coded_of (suc (suc r)) block ≡ coded_of 2 block)
unfolding word_of coded_of input_of checked_block info_bits encode input_place inputs_per coded_per
past_rates r block = (refl, refl)

-- and two words that are the same have the same k bits
pub same_word : (rate : ℕ) (a b : List ℕ) → rate < 3 → word_of rate a ≡ word_of rate b → SameBits rate a b
same_word rate a b h e i l = sym (Laws.bits_back rate a h i l) ∙ ap (λ (w : List ℕ). bit_at (block_in rate w) i) e ∙ Laws.bits_back rate b h i l

-- a block of the right length is written, whatever its spare bits
pub always_written : (rate : ℕ) (block : List ℕ) → rate < 3 → length block ≡ block_bytes rate → word_write_says rate block word_bytes ≡ Done
always_written = Answers.always_written

-- a packed block is written; its word is accepted, and gives the block back
pub packed_written : (rate : ℕ) (block : List ℕ) → rate < 3 → Packed rate block → word_write_says rate block word_bytes ≡ Done
packed_written rate block h p = always_written rate block h p.size

pub packed_read : (rate : ℕ) (block : List ℕ) → rate < 3 → Packed rate block
    → (word_read_says rate (word_of rate block) (block_bytes rate) ≡ Done) × (block_in rate (word_of rate block) ≡ block)
packed_read rate block h p =
    let w = packed_written rate block h p in
    (ap (word_read_says rate (word_of rate block)) (sym p.size) ∙ (written_read rate block w).0, whole_back rate block p.bytes w p.spare)

-- an accepted word gives a packed block, and is the word of that block
pub read_packed : (rate : ℕ) (word : List ℕ) (n : ℕ) → Bytes word → word_read_says rate word n ≡ Done
    → Packed rate (block_in rate word) × (word_of rate (block_in rate word) ≡ word)
read_packed rate word n b e = (Laws.block_packed rate word, (read_written rate word n b e).1)

-- a block that is read from any word has the rate's length and spare bits of 0
pub block_packed : (rate : ℕ) (word : List ℕ) → Packed rate (block_in rate word)
block_packed = Laws.block_packed

-- the numbers that the two calls can answer
pub write_numbers : (rate : ℕ) (block : List ℕ) (n : ℕ) → among (0 ∷ 2 ∷ 8 ∷ []) (number_of (word_write_says rate block n)) ≡ true
write_numbers = Answers.write_numbers

pub read_numbers : (rate : ℕ) (word : List ℕ) (n : ℕ) → among (0 ∷ 2 ∷ 8 ∷ 13 ∷ 14 ∷ 15 ∷ []) (number_of (word_read_says rate word n)) ≡ true
read_numbers = Answers.read_numbers

-- the answers of the two calls fit the number that C gets
pub write_fits : (rate : ℕ) (block : List ℕ) (n : ℕ) → Fits (word_write_says rate block n)
write_fits = Answers.write_fits

pub read_fits : (rate : ℕ) (word : List ℕ) (n : ℕ) → Fits (word_read_says rate word n)
read_fits = Answers.read_fits
