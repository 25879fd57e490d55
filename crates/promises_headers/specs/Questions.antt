-- The questions put to a header and the sizes that follow from it, in figures: a part of demand 1. The fields of a header, question 1, and the answers that `header_says` and
-- `form_says` put together are in Card6.
use Rattle.std.specs.Prelude.{◌≡◌, true, ◌||◌, List, ℕ, ◌+◌, ◌-◌, ◌*◌, ◌/◌, ◌%◌, ◌^◌, ◌<◌, ltb, leb, eqb, length, get_or}
use Rattle.bits.specs.Basics.{both}
use Rattle.sizes.specs.Sizes.{info_bits, block_bytes, word_bytes}
use Rattle.header_questions.specs.Questions.{question2, question3, question4, question5, question6, question7, question20, marks_good}
use Rattle.header_sizes.specs.Quantities as sizes
use Rattle.header_sizes.specs.Quantities.{block_count}
use Rattle.header.specs.declared.Fields.{Fields}
use Rattle.delay.specs.Delay.{area_bytes}

-- ---- the questions, in figures. The fields of a header, question 1, and the answers that `header_says` and `form_says` put together: Card6

abbrev pub QuestionsAre : Type 0
QuestionsAre =
    (f : Fields)
    → (question2 f ≡ ltb f.rate 3)
    × (question3 f ≡ both (leb 2 f.bits) (leb f.bits 8))
    × (question4 f ≡ both (both (leb 1 f.rows) (leb f.rows 128)) (both (leb 1 f.step) (leb f.step 256)))
    × (question5 f ≡ eqb (f.rows * (f.rows - 1) * f.step % (15120 / f.bits)) 0)
    × (question6 f ≡ both (both (leb 1 f.size) (leb f.size 2048)) (both (leb 1 f.frames) (leb f.frames 64)))
    × (question7 f ≡ both (leb 1 f.markers) (leb f.markers 32))
    × (question20 f ≡ eqb f.copies 1 || eqb f.copies 2 || eqb f.copies 3 || eqb f.copies 4 || eqb f.copies 8 || eqb f.copies 16 || eqb f.copies 32)

-- "each lent marker symbol, up to the W-th, below M", whatever the slice's length
abbrev pub MarksAre : Type 0
MarksAre =
    (f : Fields) (marker : List ℕ)
    → (marks_good f marker ≡ true → (i : ℕ) → i < length marker → i < f.markers → get_or marker i 0 < 2 ^ f.bits)
    × (((i : ℕ) → i < length marker → i < f.markers → get_or marker i 0 < 2 ^ f.bits) → marks_good f marker ≡ true)

-- ---- the sizes, in figures

-- "k = 5006, 7526 or 10046 by rate"; "a packed block has 626, 941 or 1256 bytes"; a word has 1,890
abbrev pub RateSizes : Type 0
RateSizes =
    (info_bits 0 ≡ 5006) × (info_bits 1 ≡ 7526) × (info_bits 2 ≡ 10046)
    × (block_bytes 0 ≡ 626) × (block_bytes 1 ≡ 941) × (block_bytes 2 ≡ 1256)
    × (word_bytes ≡ 1890)

-- of a header with these fields: T bits of marked frames; S symbols a word; C, the blocks of k bits that hold T; the fill bits after them; R lines of S places,
-- with N (N - 1) B that are not hit; the symbols, W markers before every line; the slots, M and M/4 of them a symbol, each symbol sent as often as the factor
-- says; their bytes, with spare bits at the end; and the bytes of the frames, the marker symbols and the area of the delay lines
abbrev pub RunSizes : Type 0
RunSizes =
    (f : Fields) (k t s c r m symbols slots : ℕ)
    → k ≡ info_bits f.rate
    → t ≡ f.frames * (8 * f.size + 32)
    → s ≡ 15120 / f.bits
    → c ≡ (t + (k - 1)) / k
    → r ≡ (c * s + f.rows * (f.rows - 1) * f.step) / s
    → m ≡ 2 ^ f.bits
    → symbols ≡ r * (s + f.markers)
    → slots ≡ symbols * f.copies * (m + m / 4)
    → (sizes.marked_bits f ≡ t)
    × (sizes.symbols_per_word f ≡ s)
    × (block_count f ≡ c)
    × (sizes.fill_bits f ≡ c * k - t)
    × (sizes.line_count f ≡ r)
    × (sizes.symbol_count f ≡ symbols)
    × (sizes.sent_symbols f ≡ symbols * f.copies)
    × (sizes.slot_count f ≡ slots)
    × (sizes.slot_bytes f ≡ (slots + 7) / 8)
    × (sizes.frame_bytes f ≡ f.frames * f.size)
    × (sizes.marker_bytes f ≡ f.markers)
    × (area_bytes f ≡ f.rows * (f.rows - 1) * f.step / 2)

-- ---- what is promised, all of it: a part of the contract of `demand_1`
pub record Questions : Type 0 where
  pub questions_are : QuestionsAre
  pub marks_are : MarksAre
  pub rate_sizes : RateSizes
  pub run_sizes : RunSizes
