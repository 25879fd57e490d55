-- Places. "The first no gives its number", and "a refusal returns number and place. Place counts from 0 and names the first that fails. It is the symbol
-- (markers counted) for 10 to 12; the first wrong coded bit for 13 in a word call; the word in a run call for 13 to 15; the frame for 16; otherwise 0."
--
-- Each statement has an answer on one side, number and place, and on the other the papers' words: every question that comes before is answered yes, this one is
-- answered no at p, and yes at all that come before p. So neither the number nor the place nor the order of the questions can be another. The names that are
-- left: `call_says`, 1 to 7, 20 and 8 (`run_answers`, Demand1); the fields of a header (`header_fields`, Card6) and its sizes, C, R · (S + W) and the slots
-- (`run_sizes`, Demand1); `pooled`, the symbol that its copies decide on (`pooled_is`, `pooled_only`, Card5); `coded_in`, `decode`, `encode` and `block_in`
-- (`coded_bit_is`, `decoded_is`, `code_is`, `block_taken_out`, Card3), `register` (`register_is`, Card3); `received` and `parity_bit` (Card14).
use Rattle.std.specs.Prelude.{◌≡◌, List, ℕ, ◌+◌, ◌-◌, ◌*◌, ◌/◌, ◌%◌, ◌^◌, ◌≤◌, ◌<◌, eqb, length, get_or}
use Rattle.bits.specs.Basics.{bool}
use Rattle.bits.specs.Pack.{val, bit_at, bytes_of, piece}
use Rattle.answers.specs.Answer.{Answer, Done, No, number_of}
use Rattle.sizes.specs.Sizes.{info_bits, block_bytes}
use Rattle.crc.specs.Check.{register}
use Rattle.convolution.specs.Code.{encode, decode}
use Rattle.word.specs.Word as words
use Rattle.word.specs.Word.{word_read_says}
use Rattle.pass.specs.Pass.{pass_read_says}
use Rattle.header.specs.Header.{fields_of}
use Rattle.header.specs.declared.Fields.{Fields}
use Rattle.header_sizes.specs.Quantities.{block_count, symbol_count, slot_count}
use Rattle.plan.specs.Lengths.{call_says}
use Rattle.pool.specs.Pooled.{pooled}
use Rattle.run.specs.Run.{run_read_says}
use Rattle.ldpc.specs.Code.{parity_bit}
use Rattle.uplink.specs.Uplink as uplinks
use Rattle.uplink.specs.Uplink.{uplink_read_says}

-- ---- "names the first that fails"

-- p is the first of n at which a question is answered no; it is answered yes at all of them; and one exactly if the other
abbrev pub FirstNo : ℕ → (ℕ → Type 0) → ℕ → Type 0
FirstNo n Yes p = (p < n) × ((i : ℕ) → i < p → Yes i) × (Yes p → ⊥)

abbrev pub AllYes : ℕ → (ℕ → Type 0) → Type 0
AllYes n Yes = (i : ℕ) → i < n → Yes i

abbrev pub Exactly : Type 0 → Type 0 → Type 0
Exactly A B = (A → B) × (B → A)

-- p is the first of n pieces, asked one after another, that is refused, and by this number
abbrev pub FirstRefused : ℕ → (ℕ → Answer) → ℕ → ℕ → Type 0
FirstRefused n say number p = (p < n) × ((i : ℕ) → i < p → say i ≡ Done) × (number_of (say p) ≡ number)

-- ---- what the questions of a run ask of slots, f being the header's fields

-- S; and symbol s, markers counted, pooled over its copies
abbrev pub per_word : Fields → ℕ
per_word f = 15120 / f.bits

abbrev pub symbol_read : Fields → List ℕ → ℕ → ℕ
symbol_read f slots s = pooled slots f.copies (2 ^ f.bits + 2 ^ f.bits / 4) (2 ^ f.bits) s

-- 9: the spare bits after the last slot are 0
abbrev pub SpareSlotsZero : Fields → List ℕ → Type 0
SpareSlotsZero f slots = (x : ℕ) → slot_count f ≤ x → x < 8 * length slots → bit_at slots x ≡ 0

-- 10: the copies of symbol s decide on one of the first M slots
abbrev pub Decided : Fields → List ℕ → ℕ → Type 0
Decided f slots s = symbol_read f slots s < 2 ^ f.bits

-- 11: symbol s is the marker symbol that was lent, if it is one of the W before every S
abbrev pub MarkerRight : Fields → List ℕ → List ℕ → ℕ → Type 0
MarkerRight f marker slots s =
    (line w : ℕ) → w < f.markers → s ≡ line * (per_word f + f.markers) + w → symbol_read f slots s ≡ get_or marker w 0

-- 12: symbol s is 0, if it is at a place to which no symbol t of all C · S goes, t + (t mod N) · B · N
abbrev pub UnhitZero : Fields → List ℕ → ℕ → Type 0
UnhitZero f slots s =
    (line i : ℕ) → i < per_word f → s ≡ line * (per_word f + f.markers) + (f.markers + i)
    → ((t : ℕ) → t < block_count f * per_word f → t + t % f.rows * (f.step * f.rows) ≡ line * per_word f + i → ⊥)
    → symbol_read f slots s ≡ 0

-- the words: bit y of word j is bit y mod m, the first highest, of symbol t = j · S + y / m, which is at place x = t + (t mod N) · B · N, and so is
-- symbol x mod S after the W markers of line x / S
abbrev pub stands_at : Fields → ℕ → ℕ
stands_at f x = x / per_word f * (per_word f + f.markers) + (f.markers + x % per_word f)

abbrev pub data_read : Fields → List ℕ → ℕ → ℕ
data_read f slots t = symbol_read f slots (stands_at f (t + t % f.rows * (f.step * f.rows)))

abbrev pub word_read : Fields → List ℕ → ℕ → List ℕ
word_read f slots j = bytes_of 1890 (λ y. data_read f slots (j * per_word f + y / f.bits) / 2 ^ (f.bits - 1 - y % f.bits) % 2)

-- 13 to 15: what the word reader says of word j
abbrev pub word_answer : Fields → List ℕ → ℕ → Answer
word_answer f slots j = word_read_says f.rate (word_read f slots j) (block_bytes f.rate)

abbrev pub WordGood : Fields → List ℕ → ℕ → Type 0
WordGood f slots j = word_answer f slots j ≡ Done

-- the stream: bit x is bit x mod k of the block in word x / k
abbrev pub stream_read : Fields → List ℕ → ℕ → ℕ
stream_read f slots x = bit_at (words.block_in f.rate (word_read f slots (x / info_bits f.rate))) (x % info_bits f.rate)

-- 16: 1ACFFC1D comes before frame j, the first bit highest; a frame with its marker is 32 + 8 F bits
abbrev pub FrameMarked : Fields → List ℕ → ℕ → Type 0
FrameMarked f slots j = (r : ℕ) → r < 32 → stream_read f slots (j * (32 + 8 * f.size) + r) ≡ 0x1ACFFC1D / 2 ^ (31 - r) % 2

-- 18: all bits after the A frames are 0, up to the end of the C blocks of k bits
abbrev pub FillZero : Fields → List ℕ → Type 0
FillZero f slots = (x : ℕ) → f.frames * (32 + 8 * f.size) ≤ x → x < block_count f * info_bits f.rate → stream_read f slots x ≡ 0

-- ---- "10, 11 and 12 each run over the whole buffer. 13 to 15 are put to one word after another": what has been answered yes before each of them

abbrev pub Before10 : List ℕ → List ℕ → List ℕ → ℕ → Type 0
Before10 header marker slots n = (call_says header marker n (length slots) ≡ Done) × SpareSlotsZero (fields_of header) slots

abbrev pub Before11 : List ℕ → List ℕ → List ℕ → ℕ → Type 0
Before11 header marker slots n = Before10 header marker slots n × AllYes (symbol_count (fields_of header)) (Decided (fields_of header) slots)

abbrev pub Before12 : List ℕ → List ℕ → List ℕ → ℕ → Type 0
Before12 header marker slots n = Before11 header marker slots n × AllYes (symbol_count (fields_of header)) (MarkerRight (fields_of header) marker slots)

abbrev pub Before13 : List ℕ → List ℕ → List ℕ → ℕ → Type 0
Before13 header marker slots n = Before12 header marker slots n × AllYes (symbol_count (fields_of header)) (UnhitZero (fields_of header) slots)

abbrev pub Before16 : List ℕ → List ℕ → List ℕ → ℕ → Type 0
Before16 header marker slots n = Before13 header marker slots n × AllYes (block_count (fields_of header)) (WordGood (fields_of header) slots)

abbrev pub Before18 : List ℕ → List ℕ → List ℕ → ℕ → Type 0
Before18 header marker slots n = Before16 header marker slots n × AllYes (fields_of header).frames (FrameMarked (fields_of header) slots)

-- ---- "the symbol (markers counted) for 10 to 12"

abbrev pub PlaceOf10 : Type 0
PlaceOf10 =
    (header marker slots : List ℕ) (n p : ℕ)
    → Exactly (run_read_says header marker slots n ≡ No 10 p)
    (Before10 header marker slots n × FirstNo (symbol_count (fields_of header)) (Decided (fields_of header) slots) p)

-- and with one copy: exactly one pulse in the symbol's M + M/4 slots, among the first M
abbrev pub OnePulse : Fields → List ℕ → ℕ → Type 0
OnePulse f slots s =
    (q : ℕ) × (q < 2 ^ f.bits) × ((r : ℕ) → r < 2 ^ f.bits + 2 ^ f.bits / 4 → bit_at slots (s * (2 ^ f.bits + 2 ^ f.bits / 4) + r) ≡ bool (eqb r q))

abbrev pub PlaceOf10Once : Type 0
PlaceOf10Once =
    (header marker slots : List ℕ) (n p : ℕ) → (fields_of header).copies ≡ 1
    → Exactly (run_read_says header marker slots n ≡ No 10 p)
    (Before10 header marker slots n × FirstNo (symbol_count (fields_of header)) (OnePulse (fields_of header) slots) p)

abbrev pub PlaceOf11 : Type 0
PlaceOf11 =
    (header marker slots : List ℕ) (n p : ℕ)
    → Exactly (run_read_says header marker slots n ≡ No 11 p)
    (Before11 header marker slots n × FirstNo (symbol_count (fields_of header)) (MarkerRight (fields_of header) marker slots) p)

abbrev pub PlaceOf12 : Type 0
PlaceOf12 =
    (header marker slots : List ℕ) (n p : ℕ)
    → Exactly (run_read_says header marker slots n ≡ No 12 p)
    (Before12 header marker slots n × FirstNo (symbol_count (fields_of header)) (UnhitZero (fields_of header) slots) p)

-- ---- "the word in a run call for 13 to 15"

abbrev pub PlaceOf13To15 : Type 0
PlaceOf13To15 =
    (header marker slots : List ℕ) (n number p : ℕ) → 13 ≤ number → number ≤ 15
    → Exactly (run_read_says header marker slots n ≡ No number p)
    (Before13 header marker slots n × FirstRefused (block_count (fields_of header)) (word_answer (fields_of header) slots) number p)

-- ---- "the frame for 16"

abbrev pub PlaceOf16 : Type 0
PlaceOf16 =
    (header marker slots : List ℕ) (n p : ℕ)
    → Exactly (run_read_says header marker slots n ≡ No 16 p)
    (Before16 header marker slots n × FirstNo (fields_of header).frames (FrameMarked (fields_of header) slots) p)

-- ---- "otherwise 0": 9, the spare bits, and 18, the fill

abbrev pub SpareIs9 : Type 0
SpareIs9 =
    (header marker slots : List ℕ) (n p : ℕ)
    → Exactly (run_read_says header marker slots n ≡ No 9 p)
    ((call_says header marker n (length slots) ≡ Done) × (SpareSlotsZero (fields_of header) slots → ⊥) × (p ≡ 0))

abbrev pub FillIs18 : Type 0
FillIs18 =
    (header marker slots : List ℕ) (n p : ℕ)
    → Exactly (run_read_says header marker slots n ≡ No 18 p)
    (Before18 header marker slots n × (FillZero (fields_of header) slots → ⊥) × (p ≡ 0))

-- ---- "the first wrong coded bit for 13 in a word call"

-- 2 and 8: the rate and the lengths are right
abbrev pub WordAsked : ℕ → List ℕ → ℕ → Type 0
WordAsked rate word n = (rate < 3) × (length word ≡ 1890) × (n ≡ block_bytes rate)

-- 13: "read the input bits from the second output alone: do they make" coded bit j, counted in step 4's order?
abbrev pub input_read : ℕ → List ℕ → ℕ → ℕ
input_read rate word = decode rate (words.coded_in word)

abbrev pub CodedRight : ℕ → List ℕ → ℕ → Type 0
CodedRight rate word j = words.coded_in word j ≡ encode rate (input_read rate word) j

-- 14: the two bits after block and check are 0
abbrev pub Terminated : ℕ → List ℕ → Type 0
Terminated rate word = (input_read rate word (info_bits rate + 32) ≡ 0) × (input_read rate word (info_bits rate + 33) ≡ 0)

-- 15: the 32 bits after the block are the register's
abbrev pub CheckRight : ℕ → List ℕ → Type 0
CheckRight rate word = val (λ i. input_read rate word (info_bits rate + i)) 32 ≡ register (input_read rate word) (info_bits rate)

abbrev pub WordPlaceOf13 : Type 0
WordPlaceOf13 =
    (rate : ℕ) (word : List ℕ) (n p : ℕ)
    → Exactly (word_read_says rate word n ≡ No 13 p) (WordAsked rate word n × FirstNo 15120 (CodedRight rate word) p)

abbrev pub WordIs14 : Type 0
WordIs14 =
    (rate : ℕ) (word : List ℕ) (n p : ℕ)
    → Exactly (word_read_says rate word n ≡ No 14 p)
    (WordAsked rate word n × AllYes 15120 (CodedRight rate word) × (Terminated rate word → ⊥) × (p ≡ 0))

abbrev pub WordIs15 : Type 0
WordIs15 =
    (rate : ℕ) (word : List ℕ) (n p : ℕ)
    → Exactly (word_read_says rate word n ≡ No 15 p)
    (WordAsked rate word n × AllYes 15120 (CodedRight rate word) × Terminated rate word × (CheckRight rate word → ⊥) × (p ≡ 0))

-- worked values: the word that has bit 2 alone is refused with 13 at coded bit 861, 862 and 861, and the word of zeros with 15 at every rate
abbrev pub ReadBitTwo : Type 0
ReadBitTwo =
    (word_read_says 0 (bytes_of 1890 (λ y. bool (eqb y 2))) 626 ≡ No 13 861)
    × (word_read_says 1 (bytes_of 1890 (λ y. bool (eqb y 2))) 941 ≡ No 13 862)
    × (word_read_says 2 (bytes_of 1890 (λ y. bool (eqb y 2))) 1256 ≡ No 13 861)

abbrev pub ZeroWordRefused : Type 0
ZeroWordRefused = (rate : ℕ) → rate < 3 → word_read_says rate (bytes_of 1890 (λ y. 0)) (block_bytes rate) ≡ No 15 0

-- ---- a pass (Card 4): "the refusal number of the lowest such block, with the block's index as place. The same is wanted for reading."

abbrev pub PassPlace : Type 0
PassPlace =
    (rate : ℕ) (slice : List ℕ) (m n number p : ℕ) → n ≡ length slice / 1890 → 13 ≤ number → number ≤ 15
    → Exactly (pass_read_says rate slice m ≡ No number p)
    ((rate < 3) × (1 ≤ n) × (n ≤ 211) × (m ≡ n * block_bytes rate) × (length slice ≡ n * 1890)
    × FirstRefused n (λ j. word_read_says rate (piece 1890 slice j) (block_bytes rate)) number p)

-- ---- the uplink (Card 14): "28 for a group that is no bit, with its place, after 9; then 29 for a failed parity check, with its codeblock"

abbrev pub UplinkAsked : List ℕ → ℕ → ℕ → Type 0
UplinkAsked slots m n = (1 ≤ n) × (n ≤ 64) × (m ≡ 8 * n) × (length slots ≡ 64 * n)

-- the four slots of group g are 1000 or 0100; and the last 64 bits of codeblock i are the parity bits of the first 64
abbrev pub GroupRight : List ℕ → ℕ → Type 0
GroupRight slots g = (t : ℕ) → t < 4 → bit_at slots (4 * g + t) ≡ bool (eqb t (bit_at slots (4 * g + 1)))

abbrev pub ParityRight : List ℕ → ℕ → Type 0
ParityRight slots i = (t : ℕ) → t < 64 → uplinks.received slots i (64 + t) ≡ parity_bit (uplinks.received slots i) t

abbrev pub PlaceOf28 : Type 0
PlaceOf28 =
    (slots : List ℕ) (m n p : ℕ) → n ≡ length slots / 64
    → Exactly (uplink_read_says slots m ≡ No 28 p) (UplinkAsked slots m n × FirstNo (128 * n) (GroupRight slots) p)

abbrev pub PlaceOf29 : Type 0
PlaceOf29 =
    (slots : List ℕ) (m n p : ℕ) → n ≡ length slots / 64
    → Exactly (uplink_read_says slots m ≡ No 29 p) (UplinkAsked slots m n × AllYes (128 * n) (GroupRight slots) × FirstNo n (ParityRight slots) p)

-- ---- what is promised, all of it: the contract of `places`
pub record Places : Type 0 where
  pub place_of_10 : PlaceOf10
  pub place_of_10_once : PlaceOf10Once
  pub place_of_11 : PlaceOf11
  pub place_of_12 : PlaceOf12
  pub place_of_13_to_15 : PlaceOf13To15
  pub place_of_16 : PlaceOf16
  pub spare_is_9 : SpareIs9
  pub fill_is_18 : FillIs18
  pub word_place_of_13 : WordPlaceOf13
  pub word_is_14 : WordIs14
  pub word_is_15 : WordIs15
  pub read_bit_two : ReadBitTwo
  pub zero_word_refused : ZeroWordRefused
  pub pass_place : PassPlace
  pub place_of_28 : PlaceOf28
  pub place_of_29 : PlaceOf29
