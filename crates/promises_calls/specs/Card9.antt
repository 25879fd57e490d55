-- Card 9. "With frame count, frame length and buffer length fixed by earlier questions there are always fewer than k fill bits. Prove that, take the
-- question out, and never use 17 again."
--
-- `call_says` is questions 1 to 7, 20 and 8 of a call that is lent frames and slots (plan/specs/Lengths.antt); the fill bits are what the C blocks of k bits
-- hold after the A marked frames.
use Rattle.std.specs.Prelude.{◌≡◌, List, ℕ, ◌+◌, ◌*◌, ◌<◌, ltb, eqb, length}
use Rattle.answers.specs.Answer.{Done, number_of, ask, then}
use Rattle.sizes.specs.Sizes.{info_bits}
use Rattle.word.specs.Word.{word_read_says, word_write_says}
use Rattle.header.specs.Header.{fields_of}
use Rattle.header.specs.declared.Fields.{Fields}
use Rattle.header_sizes.specs.Quantities.{marked_bits, block_count, fill_bits}
use Rattle.header_convert.specs.Convert.{widen_says, narrow_says}
use Rattle.plan.specs.Plan.{plan_in}
use Rattle.plan.specs.Lengths.{call_says}
use Rattle.stream_reader.specs.Frames.{first_unmarked, fill_zero}
use Rattle.slots.specs.Reading.{word_out, slots_say}
use Rattle.run.specs.Run as runs
use Rattle.run.specs.Run.{run_read_says, run_write_says}
use Rattle.capture_search.specs.Search.{find_says, find_from_says}
use Rattle.capture_cut.specs.Cut.{cut_says}
use Rattle.pass.specs.Pass.{pass_read_says, pass_write_says}
use Rattle.spread.specs.Spread.{spread_says}
use Rattle.fades.specs.Fades.{fades_say}

-- Where these are passed, the marked frames and the fill bits are all bits of the blocks, and the fill bits are fewer than k.
abbrev pub FewFillBits : Type 0
FewFillBits =
    (header marker : List ℕ) (frames_length slots_length : ℕ) → call_says header marker frames_length slots_length ≡ Done
    → (marked_bits (fields_of header) + fill_bits (fields_of header) ≡ block_count (fields_of header) * info_bits (fields_of header).rate)
    × (fill_bits (fields_of header) < info_bits (fields_of header).rate)

-- The reader with the question put where it was, between 16 and 18, gives the same answer to every input.
abbrev pub Asked17 : Type 0
Asked17 =
    (header marker slots : List ℕ) (n : ℕ) (f : Fields) (word : ℕ → List ℕ) → f ≡ fields_of header → word ≡ word_out (plan_in header marker) slots
    → run_read_says header marker slots n
    ≡ then (call_says header marker n (length slots))
    (then (slots_say (plan_in header marker) slots)
    (then (runs.words_say f word)
    (then (ask (eqb (first_unmarked f.size f.frames (runs.stream_in f word)) f.frames) 16 (first_unmarked f.size f.frames (runs.stream_in f word)))
    (then (ask (ltb (fill_bits f) (info_bits f.rate)) 17 0)
    (ask (fill_zero f.size f.frames (block_count f * info_bits f.rate) (runs.stream_in f word)) 18 0)))))

-- No call answers 17: `Fits`, which every answer to C must meet, has it as a field. Cards 10, 11 and 14 say it of theirs.
abbrev pub WordWriteNot17 : Type 0
WordWriteNot17 = (rate : ℕ) (block : List ℕ) (n : ℕ) → number_of (word_write_says rate block n) ≡ 17 → ⊥

abbrev pub WordReadNot17 : Type 0
WordReadNot17 = (rate : ℕ) (word : List ℕ) (n : ℕ) → number_of (word_read_says rate word n) ≡ 17 → ⊥

abbrev pub RunWriteNot17 : Type 0
RunWriteNot17 = (header marker frames : List ℕ) (n : ℕ) → number_of (run_write_says header marker frames n) ≡ 17 → ⊥

abbrev pub RunReadNot17 : Type 0
RunReadNot17 = (header marker slots : List ℕ) (n : ℕ) → number_of (run_read_says header marker slots n) ≡ 17 → ⊥

abbrev pub PassWriteNot17 : Type 0
PassWriteNot17 = (rate : ℕ) (blocks : List ℕ) (n : ℕ) → number_of (pass_write_says rate blocks n) ≡ 17 → ⊥

abbrev pub PassReadNot17 : Type 0
PassReadNot17 = (rate : ℕ) (slice : List ℕ) (n : ℕ) → number_of (pass_read_says rate slice n) ≡ 17 → ⊥

abbrev pub SpreadNot17 : Type 0
SpreadNot17 = (rate bit n : ℕ) → number_of (spread_says rate bit n) ≡ 17 → ⊥

abbrev pub FindNot17 : Type 0
FindNot17 =
    (header marker capture : List ℕ) (from : ℕ)
    → (number_of (find_says header marker capture) ≡ 17 → ⊥) × (number_of (find_from_says header marker capture from) ≡ 17 → ⊥)

abbrev pub CutNot17 : Type 0
CutNot17 = (header : List ℕ) (capture_length s slots_length : ℕ) → number_of (cut_says header capture_length s slots_length) ≡ 17 → ⊥

abbrev pub WidenNot17 : Type 0
WidenNot17 = (old : List ℕ) (n : ℕ) → number_of (widen_says old n) ≡ 17 → ⊥

abbrev pub NarrowNot17 : Type 0
NarrowNot17 = (header : List ℕ) (n : ℕ) → number_of (narrow_says header n) ≡ 17 → ⊥

abbrev pub FadesNot17 : Type 0
FadesNot17 = (header fades : List ℕ) (n : ℕ) → number_of (fades_say header fades n) ≡ 17 → ⊥

-- ---- what is promised, all of it: the contract of `card_9`
pub record Card9 : Type 0 where
  pub few_fill_bits : FewFillBits
  pub asked_17 : Asked17
  pub word_write_not_17 : WordWriteNot17
  pub word_read_not_17 : WordReadNot17
  pub run_write_not_17 : RunWriteNot17
  pub run_read_not_17 : RunReadNot17
  pub pass_write_not_17 : PassWriteNot17
  pub pass_read_not_17 : PassReadNot17
  pub spread_not_17 : SpreadNot17
  pub find_not_17 : FindNot17
  pub cut_not_17 : CutNot17
  pub widen_not_17 : WidenNot17
  pub narrow_not_17 : NarrowNot17
  pub fades_not_17 : FadesNot17
