-- The laws of the word: its steps in figures, what each step makes of bits, of equal bits and of sums, the way back, and a written word read again.
use mathlib.Core.Path.{◌≡◌, refl, sym, ap, ap₂, ◌∙◌}
use mathlib.Core.List.{List, ◌++◌}
use Prim.Native.Nat.{ℕ, ◌+◌, ◌-◌, ◌*◌, ◌/◌, ◌%◌, ◌^◌, ◌≤◌, ◌<◌}
use lib.ListN.{length, get_or, take, drop, length-append, get_or-append}
use mathlib.Core.Bool.{true}
use mathlib.Core.Logic.{⊎_elim}
use native.Mathlib.Omega.{arith}
use lib.Bits.{bit_xor}
use lib.Dec.{eqb}
use lib.Seq.{take-length}
use borrow.Author.Tests.{eq-eqb, eqb-true}
use Rattle.bits.specs.Pack.{Bytes, val, bit_at, bytes_of, cut, Bits}
use Rattle.sizes.specs.Sizes.{block_bytes, info_bits, word_bits, word_bytes}
use Rattle.bits.specs.Basics.{tab}
use Rattle.bits.proofs.Laws.Choice.{lt_or_le}
use Rattle.bits.proofs.Laws.Sum.{sum3, xor_same, same_xor}
use Rattle.bits.proofs.Laws.Table.{both_true, get_or_tab, tab_same}
use Rattle.bits.proofs.Laws.First.{none_fails, all_pass}
use Rattle.bits.proofs.Laws.Pack.{bit_lt, bit_bytes, bit_val, val_bits, val_same, bytes_made, bytes_same, bytes_are, length_bytes, cut_in, cut_past, cut_bits, cut_same, cut_sum3}
use Rattle.sizes.specs.Inner.{input_bits}
use Rattle.sizes.proofs.Laws.Rate.{block_size}
use Rattle.crc.specs.Check.{register, check_bit, checked}
use Rattle.crc.proofs.Laws.Check.{register_same, register_lt, checked_block_lem, checked_check, checked_bits, checked_same, checked_sum3}
use Rattle.crc.specs.Inner.{checked_change}
use Rattle.crc.proofs.Laws.Difference.{checked_plus, change_same}
use Rattle.convolution.specs.Code.{terminated, encode, decode}
use Rattle.convolution.proofs.Laws.Code.{encode_bits, encode_same, encode_plus, decode_bits, decode_same, decode_encode}
use Rattle.interleaver.specs.Interleaver.{interleave, deinterleave}
use Rattle.interleaver.proofs.Laws.Interleaver.{interleave_bits, deinterleave_bits, interleave_same, deinterleave_same, deinterleave_interleave, interleave_deinterleave, interleave_plus, deinterleave_plus}
use Rattle.accumulator.specs.Accumulator.{accumulate, differentiate}
use Rattle.accumulator.proofs.Laws.Accumulator.{accumulate_bits, differentiate_bits, accumulate_same, differentiate_same, accumulate_plus, differentiate_plus, differentiate_accumulate, accumulate_differentiate}
use Rattle.randomizer.specs.Randomizer.{randomize}
use Rattle.randomizer.proofs.Laws.Randomizer.{randomize_bits, randomize_same, randomize_twice, randomize_sum3, randomize_differ}
use Rattle.word.specs.Word.{SpareZero, SameBits, taken_in, checked_block, input_of, coded_of, shuffled, word_of, carried_on, coded_in, input_in, packed_block, block_in, agrees, first_wrong, ends_in_zeros, check_right}

-- a packed block with spare bits of 0, as the reader gives it and a run has it: as many bytes as the rate implies, its bits, and zeros after them
pub record Packed (rate : ℕ) (block : List ℕ) : Type 0 where
  pub size : length block ≡ block_bytes rate
  pub bytes : Bytes block
  pub spare : SpareZero rate block

-- What holds of words. Only this file and those beside it open the definitions of `Word`.

-- the whole way in one line, what step 2 takes in, steps 3 to 6 alone, and the coded bits taken back out
pub word_steps : (rate : ℕ) (block : List ℕ)
    → word_of rate block ≡ bytes_of word_bytes (accumulate (interleave (encode rate (terminated (info_bits rate + 32) (checked (info_bits rate) (randomize (bit_at block)))))))
unfolding word_of coded_of input_of shuffled checked_block taken_in
word_steps rate block = refl

pub taken_steps : (block : List ℕ) → taken_in block ≡ randomize (bit_at block)
unfolding taken_in
taken_steps block = refl

pub carried_steps : (rate : ℕ) (x : ℕ → ℕ) → carried_on rate x ≡ bytes_of word_bytes (accumulate (interleave (encode rate (terminated (info_bits rate + 32) x))))
unfolding carried_on shuffled
carried_steps rate x = refl

pub coded_steps : (word : List ℕ) → coded_in word ≡ deinterleave (differentiate (bit_at word))
unfolding coded_in
coded_steps word = refl

pub block_steps : (rate : ℕ) (word : List ℕ) → block_in rate word ≡ bytes_of (block_bytes rate) (cut (info_bits rate) (randomize (decode rate (coded_in word))))
unfolding block_in packed_block input_in
block_steps rate word = refl

-- ---- bits all the way

pub taken_bits : (block : List ℕ) → Bits (taken_in block)
unfolding taken_in
taken_bits block = randomize_bits (bit_at block) (bit_lt block)

-- step 7 adds the same to all blocks: where their bits are the same, so are those that step 2 takes in, and only there
pub taken_same : (a b : List ℕ) (i : ℕ) → bit_at a i ≡ bit_at b i → taken_in a i ≡ taken_in b i
unfolding taken_in
taken_same a b i e = randomize_same (bit_at a) (bit_at b) i e

pub taken_one : (a b : List ℕ) (i : ℕ) → taken_in a i ≡ taken_in b i → bit_at a i ≡ bit_at b i
unfolding taken_in
taken_one a b i e = same_xor (bit_at a i) (bit_at b i) (sym (randomize_differ (bit_at a) (bit_at b) i) ∙ xor_same (taken_in a i) (taken_in b i) e)

pub checked_block_bits : (rate : ℕ) (block : List ℕ) → Bits (checked_block rate block)
unfolding checked_block
checked_block_bits rate block = checked_bits (info_bits rate) (taken_in block) (taken_bits block)

pub input_bits_lem : (rate : ℕ) (block : List ℕ) → Bits (input_of rate block)
unfolding input_of
input_bits_lem rate block = cut_bits (info_bits rate + 32) (checked_block rate block) (checked_block_bits rate block)

pub coded_bits : (rate : ℕ) (block : List ℕ) → Bits (coded_of rate block)
unfolding coded_of
coded_bits rate block = encode_bits rate (input_of rate block) (input_bits_lem rate block)

pub shuffled_bits : (c : ℕ → ℕ) → Bits c → Bits (shuffled c)
unfolding shuffled
shuffled_bits c h = accumulate_bits (interleave c) (interleave_bits c h)

pub coded_in_bits : (word : List ℕ) → Bits (coded_in word)
unfolding coded_in
coded_in_bits word = deinterleave_bits (differentiate (bit_at word)) (differentiate_bits (bit_at word) (bit_lt word))

pub input_in_bits : (rate : ℕ) (word : List ℕ) → Bits (input_in rate word)
unfolding input_in
input_in_bits rate word = decode_bits rate (coded_in word) (coded_in_bits word)

-- ---- steps 5 and 6 and their undoing

-- coded bits that agree make the same word
pub shuffled_same : (c d : ℕ → ℕ) → ((x : ℕ) → x < word_bits → c x ≡ d x) → (j : ℕ) → shuffled c j ≡ shuffled d j
unfolding shuffled
shuffled_same c d h j = accumulate_same (interleave c) (interleave d) j (λ i l. interleave_same c d h i)

-- the coded bits of a word that was made of coded bits
pub coded_back : (c : ℕ → ℕ) → Bits c → (x : ℕ) → x < word_bits → coded_in (bytes_of word_bytes (shuffled c)) x ≡ c x
unfolding coded_in shuffled
coded_back c h x l =
    deinterleave_same (differentiate (bit_at (bytes_of word_bytes (shuffled c)))) (interleave c) (λ j k.
    differentiate_same (bit_at (bytes_of word_bytes (shuffled c))) (accumulate (interleave c)) j (λ i b.
    bit_bytes word_bytes (shuffled c) (shuffled_bits c h) i (omega arith))
    ∙ differentiate_accumulate (interleave c) j) x
    ∙ deinterleave_interleave c x l

-- a word is made of its coded bits
pub word_again : (word : List ℕ) → length word ≡ word_bytes → Bytes word → bytes_of word_bytes (shuffled (coded_in word)) ≡ word
unfolding coded_in shuffled
word_again word e b =
    sym (bytes_made word_bytes (shuffled (coded_in word)) word e b (λ j l.
    sym
    (accumulate_same (interleave (coded_in word)) (differentiate (bit_at word)) j (λ i k.
    interleave_deinterleave (differentiate (bit_at word)) i (omega arith))
    ∙ accumulate_differentiate (bit_at word) j)))

-- steps 5 and 6 on packed bytes, one after another, as the code takes them
pub shuffled_made : (c : ℕ → ℕ) (w1 w2 : List ℕ) → Bits c → w1 ≡ bytes_of word_bytes (interleave c) → w2 ≡ bytes_of (length w1) (accumulate (bit_at w1))
    → w2 ≡ bytes_of word_bytes (shuffled c)
unfolding shuffled
shuffled_made c w1 w2 h e1 e2 =
    let n1 : length w1 ≡ word_bytes = ap length e1 ∙ length_bytes word_bytes (interleave c) in
    e2 ∙ ap (λ (n : ℕ). bytes_of n (accumulate (bit_at w1))) n1
    ∙ bytes_same word_bytes (accumulate (bit_at w1)) (shuffled c) (λ j l.
    accumulate_same (bit_at w1) (interleave c) j (λ i k.
    ap (λ (w : List ℕ). bit_at w i) e1 ∙ bit_bytes word_bytes (interleave c) (interleave_bits c h) i (omega arith)))

-- the word of a list of coded bits
pub word_from_lem : (rate : ℕ) (block coded : List ℕ) → coded ≡ tab word_bits (coded_of rate block) → bytes_of word_bytes (shuffled (λ j. get_or coded j 0)) ≡ word_of rate block
unfolding word_of
word_from_lem rate block coded e =
    bytes_same word_bytes (shuffled (λ j. get_or coded j 0)) (shuffled (coded_of rate block)) (λ j l.
    shuffled_same (λ j. get_or coded j 0) (coded_of rate block) (λ x k.
    ap (λ (xs : List ℕ). get_or xs x 0) e ∙ get_or_tab word_bits (coded_of rate block) x k) j)

-- and steps 6 and 5 undone
pub coded_made : (word undone coded : List ℕ) → length word ≡ word_bytes → undone ≡ bytes_of (length word) (differentiate (bit_at word))
    → coded ≡ tab word_bits (deinterleave (bit_at undone)) → coded ≡ tab word_bits (coded_in word)
unfolding coded_in
coded_made word undone coded n e1 e2 =
    e2 ∙ tab_same word_bits (deinterleave (bit_at undone)) (coded_in word) (λ x l.
    deinterleave_same (bit_at undone) (differentiate (bit_at word)) (λ j k.
    ap (λ (w : List ℕ). bit_at w j) e1
    ∙ bit_bytes (length word) (differentiate (bit_at word)) (differentiate_bits (bit_at word) (bit_lt word)) j (omega arith)) x)

-- bits added to a word are added, as steps 6 and 5 undone leave them, to its coded bits
pub coded_plus : (word other : List ℕ) (e : ℕ → ℕ) → ((j : ℕ) → j < word_bits → bit_at other j ≡ bit_xor (bit_at word j) (e j))
    → (x : ℕ) → coded_in other x ≡ bit_xor (coded_in word x) (deinterleave (differentiate e) x)
unfolding coded_in
coded_plus word other e h x =
    deinterleave_same (differentiate (bit_at other)) (λ j. bit_xor (differentiate (bit_at word) j) (differentiate e j)) (λ j l.
    differentiate_same (bit_at other) (λ i. bit_xor (bit_at word i) (e i)) j (λ i k. h i (omega arith))
    ∙ differentiate_plus (bit_at word) e j) x
    ∙ deinterleave_plus (differentiate (bit_at word)) (differentiate e) x

-- the word of the sum of three is the sum of the three words, bit by bit
pub shuffled_sum3 : (c d e : ℕ → ℕ) (j : ℕ) → shuffled (λ x. sum3 (c x) (d x) (e x)) j ≡ sum3 (shuffled c j) (shuffled d j) (shuffled e j)
unfolding shuffled
shuffled_sum3 c d e j =
    accumulate_same (interleave (λ x. sum3 (c x) (d x) (e x))) (λ i. sum3 (interleave c i) (interleave d i) (interleave e i)) j (λ i l.
    interleave_plus (λ x. bit_xor (c x) (d x)) e i ∙ ap (λ (b : ℕ). bit_xor b (interleave e i)) (interleave_plus c d i))
    ∙ accumulate_plus (λ i. bit_xor (interleave c i) (interleave d i)) (interleave e) j
    ∙ ap (λ (b : ℕ). bit_xor b (accumulate (interleave e) j)) (accumulate_plus (interleave c) (interleave d) j)

-- the input bits of the sum, and its coded bits
pub coded_sum3 : (rate : ℕ) (a b c s : List ℕ) → rate < 3 → ((i : ℕ) → i < info_bits rate → bit_at s i ≡ sum3 (bit_at a i) (bit_at b i) (bit_at c i))
    → (j : ℕ) → j < word_bits → coded_of rate s j ≡ sum3 (coded_of rate a j) (coded_of rate b j) (coded_of rate c j)
unfolding coded_of input_of checked_block taken_in
coded_sum3 rate a b c s h e j l =
    let k : ℕ = info_bits rate in
    let x : ℕ → ℕ = input_of rate a in
    let y : ℕ → ℕ = input_of rate b in
    let z : ℕ → ℕ = input_of rate c in
    encode_same rate (input_of rate s) (λ i. sum3 (x i) (y i) (z i)) h (λ i u.
    cut_same (k + 32) (checked k (taken_in s)) (λ i. sum3 (checked k (taken_in a) i) (checked k (taken_in b) i) (checked k (taken_in c) i)) (λ i v.
    checked_same k (taken_in s) (λ i. sum3 (taken_in a i) (taken_in b i) (taken_in c i)) (λ i m.
    randomize_same (bit_at s) (λ i. sum3 (bit_at a i) (bit_at b i) (bit_at c i)) i (e i m) ∙ randomize_sum3 (bit_at a) (bit_at b) (bit_at c) i) i
    ∙ checked_sum3 k (taken_in a) (taken_in b) (taken_in c) (taken_bits a) (taken_bits b) (taken_bits c) i) i
    ∙ cut_sum3 (k + 32) (checked k (taken_in a)) (checked k (taken_in b)) (checked k (taken_in c)) i) j l
    ∙ encode_plus rate (λ i. bit_xor (x i) (y i)) z j
    ∙ ap (λ (b : ℕ). bit_xor b (encode rate z j)) (encode_plus rate x y j)

-- ---- blocks

-- the three parts that steps 2 and 3 make of k bits x
module _ (k : ℕ) (x : ℕ → ℕ) (i : ℕ) where
  pub part_block : i < k → terminated (k + 32) (checked k x) i ≡ x i
  part_block l = cut_in (k + 32) (checked k x) i (omega arith) ∙ checked_block_lem k x i l

  pub part_check : i < 32 → terminated (k + 32) (checked k x) (k + i) ≡ check_bit (register x k) i
  part_check l =
      let e : k + i - k ≡ i = omega arith in
      cut_in (k + 32) (checked k x) (k + i) (omega arith) ∙ checked_check k x (k + i) (omega arith) ∙ ap (check_bit (register x k)) e

  pub part_end : k + 32 ≤ i → terminated (k + 32) (checked k x) i ≡ 0
  part_end l = cut_past (k + 32) (checked k x) i l

-- and those of the input bits
pub input_block : (rate : ℕ) (block : List ℕ) (i : ℕ) → i < info_bits rate → input_of rate block i ≡ taken_in block i
unfolding input_of checked_block
input_block rate block i l = part_block (info_bits rate) (taken_in block) i l

pub input_check : (rate : ℕ) (block : List ℕ) (i : ℕ) → i < 32 → input_of rate block (info_bits rate + i) ≡ check_bit (register (taken_in block) (info_bits rate)) i
unfolding input_of checked_block
input_check rate block i l = part_check (info_bits rate) (taken_in block) i l

pub input_end : (rate : ℕ) (block : List ℕ) (i : ℕ) → info_bits rate + 32 ≤ i → input_of rate block i ≡ 0
unfolding input_of checked_block
input_end rate block i l = part_end (info_bits rate) (taken_in block) i l

-- a block that is copied to the front of a longer list, and step 7 there: its bits, as step 2 takes them in
pub taken_made : (rate : ℕ) (block room w0 w1 : List ℕ) → rate < 3 → length block ≡ block_bytes rate → w0 ≡ take (length block) block ++ drop (length block) room
    → w1 ≡ bytes_of (length w0) (randomize (bit_at w0)) → (i : ℕ) → i < info_bits rate → bit_at w1 i ≡ taken_in block i
unfolding taken_in bit_at
taken_made rate block room w0 w1 h n e0 e1 i l =
    let size : 8 * block_bytes rate ≡ info_bits rate + 2 = block_size rate h in
    let rest : List ℕ = drop (length block) room in
    let front : w0 ≡ block ++ rest = e0 ∙ ap (λ (xs : List ℕ). xs ++ rest) (take-length block) in
    let long : length w0 ≡ length block + length rest = ap length front ∙ length-append block rest in
    let inside : i / 8 < length block = omega arith in
    ap (λ (w : List ℕ). bit_at w i) e1
    ∙ bit_bytes (length w0) (randomize (bit_at w0)) (randomize_bits (bit_at w0) (bit_lt w0)) i (omega arith)
    ∙ randomize_same (bit_at w0) (bit_at block) i
    (ap (λ (w : List ℕ). bit_at w i) front ∙ ap (λ (v : ℕ). v / 2 ^ (7 - i % 8) % 2) (get_or-append block rest 0 (i / 8) inside))

-- the input bits of these
pub input_taken : (rate : ℕ) (block taken : List ℕ) → ((i : ℕ) → i < info_bits rate → bit_at taken i ≡ taken_in block i)
    → (i : ℕ) → terminated (info_bits rate + 32) (checked (info_bits rate) (bit_at taken)) i ≡ input_of rate block i
unfolding input_of checked_block
input_taken rate block taken e =
    let k : ℕ = info_bits rate in
    cut_same (k + 32) (checked k (bit_at taken)) (checked k (taken_in block)) (λ i l. checked_same k (bit_at taken) (taken_in block) e i)

-- where two blocks differ, their input bits differ by what the difference of their k bits makes, and so do their coded bits: step 7 adds the same to both
input_plus : (rate : ℕ) (a b : List ℕ) (i : ℕ)
    → bit_xor (input_of rate a i) (input_of rate b i) ≡ terminated (info_bits rate + 32) (checked_change (info_bits rate) (λ i. bit_xor (taken_in a i) (taken_in b i))) i
unfolding input_of checked_block
input_plus rate a b i =
    let k : ℕ = info_bits rate in
    let d : ℕ → ℕ = checked_change k (λ i. bit_xor (taken_in a i) (taken_in b i)) in
    ⊎_elim
    (λ (l : i < k + 32).
    ap₂ bit_xor (cut_in (k + 32) (checked k (taken_in a)) i l) (cut_in (k + 32) (checked k (taken_in b)) i l)
    ∙ checked_plus k (taken_in a) (taken_in b) (taken_bits a) (taken_bits b) i
    ∙ sym (cut_in (k + 32) d i l))
    (λ (l : k + 32 ≤ i).
    ap₂ bit_xor (cut_past (k + 32) (checked k (taken_in a)) i l) (cut_past (k + 32) (checked k (taken_in b)) i l)
    ∙ sym (cut_past (k + 32) d i l))
    (lt_or_le i (k + 32))

pub coded_change : (rate : ℕ) (a b : List ℕ) (d : ℕ → ℕ) → rate < 3 → ((i : ℕ) → i < info_bits rate → bit_xor (bit_at a i) (bit_at b i) ≡ d i)
    → (j : ℕ) → j < word_bits → bit_xor (coded_of rate a j) (coded_of rate b j) ≡ encode rate (terminated (info_bits rate + 32) (checked_change (info_bits rate) d)) j
unfolding coded_of taken_in
coded_change rate a b d h e j l =
    let k : ℕ = info_bits rate in
    let x : ℕ → ℕ = λ i. bit_xor (taken_in a i) (taken_in b i) in
    sym (encode_plus rate (input_of rate a) (input_of rate b) j)
    ∙ encode_same rate (λ i. bit_xor (input_of rate a i) (input_of rate b i)) (terminated (k + 32) (checked_change k d)) h (λ i u.
    input_plus rate a b i
    ∙ cut_same (k + 32) (checked_change k x) (checked_change k d) (λ i v. change_same k x d (λ i w. randomize_differ (bit_at a) (bit_at b) i ∙ e i w) i) i) j l

-- ---- any k + 32 bits, carried on from step 3: the input bits come back, and questions 13 and 14 are passed

module _ (rate : ℕ) (x : ℕ → ℕ) (b : Bits x) (h : rate < 3) where
  carried_coded : (j : ℕ) → j < word_bits → coded_in (carried_on rate x) j ≡ encode rate (terminated (info_bits rate + 32) x) j
  unfolding carried_on
  carried_coded = coded_back (encode rate (terminated (info_bits rate + 32) x)) (encode_bits rate (terminated (info_bits rate + 32) x) (cut_bits (info_bits rate + 32) x b))

  pub carried_input : (i : ℕ) → i < input_bits rate → input_in rate (carried_on rate x) i ≡ terminated (info_bits rate + 32) x i
  unfolding input_in
  carried_input i l =
      decode_same rate (coded_in (carried_on rate x)) (encode rate (terminated (info_bits rate + 32) x)) h carried_coded i l
      ∙ decode_encode rate (terminated (info_bits rate + 32) x) h i

  pub carried_13 : first_wrong rate (coded_in (carried_on rate x)) (input_in rate (carried_on rate x)) ≡ word_bits
  unfolding first_wrong agrees
  carried_13 =
      all_pass (agrees rate (coded_in (carried_on rate x)) (input_in rate (carried_on rate x))) word_bits (λ j l.
      eq-eqb (coded_in (carried_on rate x) j) (encode rate (input_in rate (carried_on rate x)) j)
      (carried_coded j l
      ∙ sym (encode_same rate (input_in rate (carried_on rate x)) (terminated (info_bits rate + 32) x) h carried_input j l)))

  pub carried_14 : ends_in_zeros rate (input_in rate (carried_on rate x)) ≡ true
  unfolding ends_in_zeros input_bits
  carried_14 =
      let k : ℕ = info_bits rate in
      let e : input_in rate (carried_on rate x) (k + 32) ≡ 0 = carried_input (k + 32) (omega arith) ∙ cut_past (k + 32) x (k + 32) (omega arith) in
      let f : input_in rate (carried_on rate x) (k + 33) ≡ 0 = carried_input (k + 33) (omega arith) ∙ cut_past (k + 32) x (k + 33) (omega arith) in
      rw (e, f) refl

pub carried_length : (rate : ℕ) (x : ℕ → ℕ) → length (carried_on rate x) ≡ word_bytes
unfolding carried_on
carried_length rate x = length_bytes word_bytes (shuffled (encode rate (terminated (info_bits rate + 32) x)))

-- a word is its block with the check after it, carried on from step 3
pub word_carried : (rate : ℕ) (block : List ℕ) → word_of rate block ≡ carried_on rate (checked_block rate block)
unfolding word_of coded_of input_of carried_on
word_carried rate block = refl

-- the input bits that a written word gives are those that made it
pub input_back : (rate : ℕ) (block : List ℕ) → rate < 3 → (i : ℕ) → i < input_bits rate → input_in rate (word_of rate block) i ≡ input_of rate block i
unfolding input_of
input_back rate block h i l =
    ap (λ (w : List ℕ). input_in rate w i) (word_carried rate block) ∙ carried_input rate (checked_block rate block) (checked_block_bits rate block) h i l

-- the k bits of the block that is read from a word
block_in_bits : (rate : ℕ) (word : List ℕ) → Bits (randomize (input_in rate word))
block_in_bits rate word = randomize_bits (input_in rate word) (input_in_bits rate word)

pub block_bit : (rate : ℕ) (word : List ℕ) → rate < 3 → (i : ℕ) → i < info_bits rate → bit_at (block_in rate word) i ≡ randomize (input_in rate word) i
unfolding block_in packed_block
block_bit rate word h i l =
    let b : 8 * block_bytes rate ≡ info_bits rate + 2 = block_size rate h in
    let x : ℕ → ℕ = randomize (input_in rate word) in
    bit_bytes (block_bytes rate) (cut (info_bits rate) x) (cut_bits (info_bits rate) x (block_in_bits rate word)) i (omega arith)
    ∙ cut_in (info_bits rate) x i l

-- step 2 takes in the input bits that were read
taken_again : (rate : ℕ) (word : List ℕ) → rate < 3 → (i : ℕ) → i < info_bits rate → taken_in (block_in rate word) i ≡ input_in rate word i
unfolding taken_in
taken_again rate word h i l =
    randomize_same (bit_at (block_in rate word)) (randomize (input_in rate word)) i (block_bit rate word h i l) ∙ randomize_twice (input_in rate word) i

-- ---- a written word passes each question

pub passes_13 : (rate : ℕ) (block : List ℕ) → rate < 3 → first_wrong rate (coded_in (word_of rate block)) (input_in rate (word_of rate block)) ≡ word_bits
passes_13 rate block h = rw (word_carried rate block) (carried_13 rate (checked_block rate block) (checked_block_bits rate block) h)

pub passes_14 : (rate : ℕ) (block : List ℕ) → rate < 3 → ends_in_zeros rate (input_in rate (word_of rate block)) ≡ true
passes_14 rate block h = rw (word_carried rate block) (carried_14 rate (checked_block rate block) (checked_block_bits rate block) h)

pub passes_15 : (rate : ℕ) (block : List ℕ) → rate < 3 → check_right rate (input_in rate (word_of rate block)) ≡ true
unfolding check_right input_bits check_bit
passes_15 rate block h =
    let x : ℕ → ℕ = input_in rate (word_of rate block) in
    let k : ℕ = info_bits rate in
    let r : ℕ = register (taken_in block) k in
    eq-eqb (val (λ i. x (k + i)) 32) (register x k)
    (val_same (λ i. x (k + i)) (λ i. r / 2 ^ (32 - 1 - i) % 2) 32 (λ i l. input_back rate block h (k + i) (omega arith) ∙ input_check rate block i l)
    ∙ val_bits r 32 (register_lt (taken_in block) (taken_bits block) k)
    ∙ register_same (taken_in block) x k (λ i l. sym (input_back rate block h i (omega arith) ∙ input_block rate block i l)))

-- and gives its block back: the k bits, and all of it where its spare bits were 0
bit_back_lem : (rate : ℕ) (block : List ℕ) → rate < 3 → (i : ℕ) → i < info_bits rate → randomize (input_in rate (word_of rate block)) i ≡ bit_at block i
unfolding input_bits taken_in
bit_back_lem rate block h i l =
    randomize_same (input_in rate (word_of rate block)) (taken_in block) i (input_back rate block h i (omega arith) ∙ input_block rate block i l)
    ∙ randomize_twice (bit_at block) i

pub bits_back : (rate : ℕ) (block : List ℕ) → rate < 3 → SameBits rate (block_in rate (word_of rate block)) block
bits_back rate block h i l = block_bit rate (word_of rate block) h i l ∙ bit_back_lem rate block h i l

pub block_back : (rate : ℕ) (block : List ℕ) → rate < 3 → Packed rate block → block_in rate (word_of rate block) ≡ block
unfolding block_in packed_block
block_back rate block h p =
    let x : ℕ → ℕ = randomize (input_in rate (word_of rate block)) in
    sym (bytes_made (block_bytes rate) (cut (info_bits rate) x) block p.size p.bytes (λ j l.
    ⊎_elim
    (λ (b : j < info_bits rate). sym (cut_in (info_bits rate) x j b ∙ bit_back_lem rate block h j b))
    (λ (b : info_bits rate ≤ j). p.spare j b l ∙ sym (cut_past (info_bits rate) x j b))
    (lt_or_le j (info_bits rate))))

-- ---- a word that passes them was written

-- what questions 13, 14 and 15 say when they are passed
pub record Sound (rate : ℕ) (word : List ℕ) : Type 0 where
  pub coded : (j : ℕ) → j < word_bits → coded_in word j ≡ encode rate (input_in rate word) j
  pub end0 : input_in rate word (info_bits rate + 32) ≡ 0
  pub end1 : input_in rate word (info_bits rate + 33) ≡ 0
  pub check : val (λ i. input_in rate word (info_bits rate + i)) 32 ≡ register (input_in rate word) (info_bits rate)

pub coded_said : (rate : ℕ) (word : List ℕ) → first_wrong rate (coded_in word) (input_in rate word) ≡ word_bits → (j : ℕ) → j < word_bits → coded_in word j ≡ encode rate (input_in rate word) j
unfolding first_wrong agrees
coded_said rate word e j l = eqb-true (coded_in word j) (encode rate (input_in rate word) j) (none_fails (agrees rate (coded_in word) (input_in rate word)) word_bits e j l)

pub ends_said : (rate : ℕ) (word : List ℕ) → ends_in_zeros rate (input_in rate word) ≡ true → (input_in rate word (info_bits rate + 32) ≡ 0) × (input_in rate word (info_bits rate + 33) ≡ 0)
unfolding ends_in_zeros
ends_said rate word e =
    let q = both_true (eqb (input_in rate word (info_bits rate + 32)) 0) (eqb (input_in rate word (info_bits rate + 33)) 0) e in
    (eqb-true (input_in rate word (info_bits rate + 32)) 0 q.0, eqb-true (input_in rate word (info_bits rate + 33)) 0 q.1)

pub sound : (rate : ℕ) (word : List ℕ) → first_wrong rate (coded_in word) (input_in rate word) ≡ word_bits → ends_in_zeros rate (input_in rate word) ≡ true → check_right rate (input_in rate word) ≡ true → Sound rate word
unfolding check_right
sound rate word e13 e14 e15 =
    record {
      coded = coded_said rate word e13;
      end0 = (ends_said rate word e14).0;
      end1 = (ends_said rate word e14).1;
      check = eqb-true (val (λ i. input_in rate word (info_bits rate + i)) 32) (register (input_in rate word) (info_bits rate)) e15;
    }

-- the block that is read has spare bits of 0
pub block_packed : (rate : ℕ) (word : List ℕ) → Packed rate (block_in rate word)
unfolding block_in packed_block
block_packed rate word =
    let y : ℕ → ℕ = randomize (input_in rate word) in
    let x : ℕ → ℕ = cut (info_bits rate) y in
    let b : Bits x = cut_bits (info_bits rate) y (block_in_bits rate word) in
    record {
      size = length_bytes (block_bytes rate) x;
      bytes = bytes_are (block_bytes rate) x b;
      spare = λ i l u. bit_bytes (block_bytes rate) x b i u ∙ cut_past (info_bits rate) y i l;
    }

-- its input bits are those read
input_again : (rate : ℕ) (word : List ℕ) → rate < 3 → Sound rate word → (i : ℕ) → i < input_bits rate → input_of rate (block_in rate word) i ≡ input_in rate word i
unfolding input_bits check_bit
input_again rate word h s i l =
    let k : ℕ = info_bits rate in
    let x : ℕ → ℕ = input_in rate word in
    let b : List ℕ = block_in rate word in
    ⊎_elim
    (λ (u : i < k). input_block rate b i u ∙ taken_again rate word h i u)
    (λ (u : k ≤ i). ⊎_elim
    (λ (v : i < k + 32).
    let e : k + (i - k) ≡ i = omega arith in
    ap (input_of rate b) (sym e) ∙ input_check rate b (i - k) (omega arith)
    ∙ ap (λ (r : ℕ). check_bit r (i - k)) (register_same (taken_in b) x k (λ t w. taken_again rate word h t w) ∙ sym s.check)
    ∙ bit_val (λ t. x (k + t)) (λ t. input_in_bits rate word (k + t)) (31 - (i - k)) (i - k) 32 (omega arith)
    ∙ ap x e)
    (λ (v : k + 32 ≤ i). input_end rate b i v ∙ sym (last i v l))
    (lt_or_le i (k + 32)))
    (lt_or_le i k)
  where
    last : (i : ℕ) → info_bits rate + 32 ≤ i → i < info_bits rate + 34 → input_in rate word i ≡ 0
    last i u v =
        ⊎_elim
        (λ (w : i < info_bits rate + 33). let e : i ≡ info_bits rate + 32 = omega arith in ap (input_in rate word) e ∙ s.end0)
        (λ (w : info_bits rate + 33 ≤ i). let e : i ≡ info_bits rate + 33 = omega arith in ap (input_in rate word) e ∙ s.end1)
        (lt_or_le i (info_bits rate + 33))

pub written_again : (rate : ℕ) (word : List ℕ) → rate < 3 → length word ≡ word_bytes → Bytes word → Sound rate word → word_of rate (block_in rate word) ≡ word
unfolding word_of coded_of
written_again rate word h e b s =
    bytes_same word_bytes (shuffled (coded_of rate (block_in rate word))) (shuffled (coded_in word)) (λ j l.
    shuffled_same (coded_of rate (block_in rate word)) (coded_in word) (λ x k.
    encode_same rate (input_of rate (block_in rate word)) (input_in rate word) h (input_again rate word h s) x k ∙ sym (s.coded x k)) j)
    ∙ word_again word e b

-- ---- what a word is made of, for the theorems

pub word_length_lem : (rate : ℕ) (block : List ℕ) → length (word_of rate block) ≡ word_bytes
unfolding word_of
word_length_lem rate block = length_bytes word_bytes (shuffled (coded_of rate block))

pub word_bytes_lem : (rate : ℕ) (block : List ℕ) → Bytes (word_of rate block)
unfolding word_of
word_bytes_lem rate block = bytes_are word_bytes (shuffled (coded_of rate block)) (shuffled_bits (coded_of rate block) (coded_bits rate block))

pub word_bit_lem : (rate : ℕ) (block : List ℕ) (j : ℕ) → j < word_bits → bit_at (word_of rate block) j ≡ shuffled (coded_of rate block) j
unfolding word_of
word_bit_lem rate block j l = bit_bytes word_bytes (shuffled (coded_of rate block)) (shuffled_bits (coded_of rate block) (coded_bits rate block)) j (omega arith)

-- the coded bits taken out of a written word are those that made it, the code of its input bits
pub coded_out : (rate : ℕ) (block : List ℕ) (x : ℕ) → x < word_bits → coded_in (word_of rate block) x ≡ coded_of rate block x
unfolding word_of
coded_out rate block x l = coded_back (coded_of rate block) (coded_bits rate block) x l

pub coded_written : (rate : ℕ) (block : List ℕ) (x : ℕ) → x < word_bits → coded_in (word_of rate block) x ≡ encode rate (input_of rate block) x
unfolding coded_of
coded_written rate block x l = coded_out rate block x l

-- two packings of the same k bits give one word
pub word_same : (rate : ℕ) (a b : List ℕ) → rate < 3 → SameBits rate a b → word_of rate a ≡ word_of rate b
unfolding word_of coded_of input_of checked_block taken_in
word_same rate a b h e =
    bytes_same word_bytes (shuffled (coded_of rate a)) (shuffled (coded_of rate b)) (λ j l.
    shuffled_same (coded_of rate a) (coded_of rate b) (λ x u.
    encode_same rate (input_of rate a) (input_of rate b) h (λ i v.
    cut_same (info_bits rate + 32) (checked_block rate a) (checked_block rate b) (λ i w.
    checked_same (info_bits rate) (taken_in a) (taken_in b) (λ i m. taken_same a b i (e i m)) i) i) x u) j)

-- a list of bytes with the right bits is the word
pub word_is : (rate : ℕ) (block xs : List ℕ) → length xs ≡ word_bytes → Bytes xs → ((j : ℕ) → j < word_bits → bit_at xs j ≡ shuffled (coded_of rate block) j) → xs ≡ word_of rate block
unfolding word_of
word_is rate block xs e b h = bytes_made word_bytes (shuffled (coded_of rate block)) xs e b (λ j l. h j (omega arith))
