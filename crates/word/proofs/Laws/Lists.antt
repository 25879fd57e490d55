-- The lists of bits that the code makes, in place of the functions of `Word`.
use mathlib.Core.Path.{◌≡◌, refl, ap, ap₂, ◌∙◌}
use mathlib.Core.List.{List}
use Prim.Native.Nat.{ℕ, ◌+◌, ◌-◌, ◌*◌, ◌/◌, ◌%◌, ◌^◌, ◌<◌}
use native.Mathlib.Omega.{arith}
use lib.Dec.{eqb}
use lib.ListN.{length, get_or}
use Rattle.bits.specs.Basics.{tab}
use Rattle.bits.proofs.Laws.Table.{get_or_tab, tab_same}
use Rattle.bits.proofs.Laws.First.{first_same}
use Rattle.bits.specs.Inner.{Copied, Ends}
use Rattle.bits.specs.Pack.{val, bit_at, bytes_of, cut, Bytes}
use Rattle.bits.proofs.Laws.Pack.{val_same, bit_lt, bit_bytes, bytes_made, bytes_same, length_bytes, cut_same}
use Rattle.sizes.specs.Sizes.{info_bits, block_bytes, word_bits}
use Rattle.sizes.specs.Inner.{input_bits}
use Rattle.sizes.proofs.Laws.Rate.{block_size}
use Rattle.crc.specs.Check.{register}
use Rattle.crc.proofs.Laws.Check.{register_same}
use Rattle.convolution.specs.Code.{encode, decode}
use Rattle.convolution.proofs.Laws.Code.{encode_same, decode_same}
use Rattle.randomizer.specs.Randomizer.{randomize}
use Rattle.randomizer.proofs.Laws.Randomizer.{randomize_bits, randomize_same}
use Rattle.word.specs.Word.{input_of, coded_of, coded_in, input_in, packed_block, block_in, agrees, first_wrong, ends_in_zeros, check_right, judged}

-- the coded bits of packed input bits
pub coded_list : (rate : ℕ) (block input : List ℕ) → rate < 3 → ((i : ℕ) → i < input_bits rate → bit_at input i ≡ input_of rate block i)
    → tab word_bits (encode rate (bit_at input)) ≡ tab word_bits (coded_of rate block)
unfolding coded_of
coded_list rate block input h e =
    tab_same word_bits (encode rate (bit_at input)) (coded_of rate block) (encode_same rate (bit_at input) (input_of rate block) h e)

-- questions 13 to 15 look at the coded bits and at the input bits, and at nothing after them
judged_same : (rate : ℕ) (c d x y : ℕ → ℕ) → rate < 3 → ((j : ℕ) → j < word_bits → c j ≡ d j) → ((i : ℕ) → i < input_bits rate → x i ≡ y i) → judged rate c x ≡ judged rate d y
unfolding judged first_wrong agrees ends_in_zeros check_right input_bits
judged_same rate c d x y h ec ex =
    let k : ℕ = info_bits rate in
    let wrong : first_wrong rate c x ≡ first_wrong rate d y =
    first_same (agrees rate c x) (agrees rate d y) word_bits (λ j l. ap₂ eqb (ec j l) (encode_same rate x y h ex j l)) in
    let end0 : x (k + 32) ≡ y (k + 32) = ex (k + 32) (omega arith) in
    let end1 : x (k + 33) ≡ y (k + 33) = ex (k + 33) (omega arith) in
    let field : val (λ i. x (k + i)) 32 ≡ val (λ i. y (k + i)) 32 = val_same (λ i. x (k + i)) (λ i. y (k + i)) 32 (λ i l. ex (k + i) (omega arith)) in
    let check : register x k ≡ register y k = register_same x y k (λ i l. ex i (omega arith)) in
    rw (wrong, end0, end1, field, check) refl

-- the block is made of the first k input bits alone
pub packed_same : (rate : ℕ) (x y : ℕ → ℕ) → ((i : ℕ) → i < info_bits rate → x i ≡ y i) → packed_block rate x ≡ packed_block rate y
unfolding packed_block
packed_same rate x y e = bytes_same (block_bytes rate) (cut (info_bits rate) x) (cut (info_bits rate) y) (λ j l. cut_same (info_bits rate) x y e j)

undone_same : (rate : ℕ) (x y : ℕ → ℕ) → ((i : ℕ) → i < info_bits rate → x i ≡ y i) → packed_block rate (randomize x) ≡ packed_block rate (randomize y)
undone_same rate x y e = packed_same rate (randomize x) (randomize y) (λ i l. randomize_same x y i (e i l))

-- step 7 undone on packed bytes, with the spare bits cleared, as the code does it
pub undone_made : (rate k : ℕ) (input before w0 w1 w2 : List ℕ) → rate < 3 → k ≡ info_bits rate → length before ≡ block_bytes rate → Copied input 0 before 0 (length before) w0
    → w1 ≡ bytes_of (length w0) (randomize (bit_at w0)) → Bytes w2 → Ends w1 k w2 → w2 ≡ packed_block rate (randomize (bit_at input))
unfolding packed_block bit_at
undone_made rate k input before w0 w1 w2 h ek n copied e1 bytes ends =
    let x : ℕ → ℕ = randomize (bit_at input) in
    let size : 8 * block_bytes rate ≡ info_bits rate + 2 = block_size rate h in
    let long0 : length w0 ≡ block_bytes rate = copied.long ∙ n in
    let long : length w1 ≡ block_bytes rate = ap length e1 ∙ length_bytes (length w0) (randomize (bit_at w0)) ∙ long0 in
    bytes_made (block_bytes rate) (cut (info_bits rate) x) w2 (ends.long ∙ long) bytes (λ j l.
    ends.bits j (omega arith) ∙ ap (λ (m : ℕ). cut m (bit_at w1) j) ek
    ∙ cut_same (info_bits rate) (bit_at w1) x (λ i u.
    let first : 0 + i / 8 ≡ i / 8 = omega arith in
    let same : get_or w0 (i / 8) 0 ≡ get_or input (i / 8) 0 = rw first at (copied.here (i / 8) (omega arith)) in
    ap (λ (w : List ℕ). bit_at w i) e1
    ∙ bit_bytes (length w0) (randomize (bit_at w0)) (randomize_bits (bit_at w0) (bit_lt w0)) i (omega arith)
    ∙ randomize_same (bit_at w0) (bit_at input) i (ap (λ (v : ℕ). v / 2 ^ (7 - i % 8) % 2) same)) j)

-- of the input bits that were read
pub undone_read : (rate : ℕ) (x : ℕ → ℕ) (input : List ℕ) → ((i : ℕ) → i < input_bits rate → bit_at input i ≡ x i)
    → packed_block rate (randomize (bit_at input)) ≡ packed_block rate (randomize x)
unfolding input_bits
undone_read rate x input e = undone_same rate (bit_at input) x (λ i l. e i (omega arith))

-- from the coded bits as a list
pub judged_coded : (rate : ℕ) (word coded : List ℕ) → rate < 3 → coded ≡ tab word_bits (coded_in word)
    → judged rate (λ j. get_or coded j 0) (decode rate (λ j. get_or coded j 0)) ≡ judged rate (coded_in word) (input_in rate word)
unfolding input_in
judged_coded rate word coded h e =
    let c : (j : ℕ) → j < word_bits → get_or coded j 0 ≡ coded_in word j = λ j l. ap (λ (xs : List ℕ). get_or xs j 0) e ∙ get_or_tab word_bits (coded_in word) j l in
    judged_same rate (λ j. get_or coded j 0) (coded_in word) (decode rate (λ j. get_or coded j 0)) (input_in rate word) h c
    (λ i l. decode_same rate (λ j. get_or coded j 0) (coded_in word) h c i l)

pub block_coded : (rate : ℕ) (word coded : List ℕ) → rate < 3 → coded ≡ tab word_bits (coded_in word)
    → packed_block rate (randomize (decode rate (λ j. get_or coded j 0))) ≡ block_in rate word
unfolding block_in input_in input_bits
block_coded rate word coded h e =
    undone_same rate (decode rate (λ j. get_or coded j 0)) (input_in rate word) (λ i l.
    decode_same rate (λ j. get_or coded j 0) (coded_in word) h (λ j k. ap (λ (xs : List ℕ). get_or xs j 0) e ∙ get_or_tab word_bits (coded_in word) j k) i (omega arith))
