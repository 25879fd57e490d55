-- Demand 1. "Refused first, by a fixed number: headers or rates out of range, marker symbols not below the pulse order, buffers of another length than
-- the header or rate implies, spare bits that are set, slot groups without exactly one pulse, words that no block makes, runs that no frames make. A
-- refused call changes no lent byte. Everything else is accepted, for every input."
--
-- Each call asks its questions in order (`then`), and the first no gives its number and its place (`ask`); where all are answered yes it is done. So
-- what is not refused by one of these numbers is accepted. That every call ends is part of every proof. "Spare bits that are set" are those of slot
-- buffers: a block's are disregarded since Card 7. The header has a factor since Card 6, with question 20; "slot groups without exactly one pulse" is
-- question 10 for factor 1, and pools the copies for the others.
use Rattle.std.specs.Prelude.{◌≡◌, List, ℕ, ◌+◌, ◌*◌, ◌/◌, ◌^◌, min, ◌<◌, ltb, eqb, length, get_or}
use Rattle.bits.specs.Basics.{both}
use Rattle.answers.specs.Answer.{No, code_of, ask, then, after, put_in_order}
use Rattle.sizes.specs.Sizes.{info_bits, block_bytes}
use Rattle.word.specs.Word as words
use Rattle.word.specs.Word.{word_read_says, word_write_says}
use Rattle.header.specs.Header.{fields_of}
use Rattle.header_questions.specs.Questions.{question1, question2, question3, question4, question5, question6, question7, question20, form_says, marks_good, run_says}
use Rattle.header_sizes.specs.Quantities as sizes
use Rattle.header_sizes.specs.Quantities.{block_count}
use Rattle.header.specs.declared.Fields.{Fields}
use Rattle.plan.specs.declared.Plan.{Plan}
use Rattle.channel.specs.Channel.{layout_symbols}
use Rattle.plan.specs.Plan.{plan_in}
use Rattle.plan.specs.Lengths.{run_lengths_right, call_says}
use Rattle.delay.specs.Delay.{step_says, leaves, area_after}
use Rattle.delay.specs.declared.Side.{Side}
use Rattle.pass.specs.Pass as passes
use Rattle.spread.specs.Spread.{spread_of, spread_says, places_after}
use Rattle.header_convert.specs.Convert.{widened, narrowed, widen_says, narrow_says, ten_after, eight_after}
use Rattle.capture_cut.specs.Cut.{cut_of, cut_says, cut_after}
use Rattle.fades.specs.Fades.{fades_say, counts_in, counts_after}
use Rattle.rack.specs.Rack as racks
use Rattle.stream_reader.specs.Frames.{first_unmarked, fill_zero}
use Rattle.slots.specs.Reading.{spare_slots_empty, first_bad_symbol, first_bad_mark, first_bad_rest, word_out}
use Rattle.run.specs.Run as runs
use Rattle.word.specs.After.{word_after, block_after}
use Rattle.run.specs.Run.{slots_after, frames_after, run_read_says, run_write_says}
use Rattle.pass.specs.Pass.{words_after, blocks_after, pass_read_says, pass_write_says}
use Rattle.uplink.specs.Uplink.{uplink_slots_after, uplink_frames_after, uplink_frames_of, uplink_slots_of, uplink_read_says, uplink_write_says}

-- ---- words

-- the writer: the rate, the lengths of block and word
abbrev pub WordWriterAsks : Type 0
WordWriterAsks =
    (rate : ℕ) (block : List ℕ) (n : ℕ)
    → word_write_says rate block n
    ≡ then (ask (ltb rate 3) 2 0)
    (ask (both (eqb (length block) (block_bytes rate)) (eqb n 1890)) 8 0)

-- the reader: the rate, the lengths, whether the input bits make all coded bits (with the first wrong one as the place), the termination, the check
abbrev pub WordReaderAsks : Type 0
WordReaderAsks =
    (rate : ℕ) (word : List ℕ) (n : ℕ)
    → word_read_says rate word n
    ≡ then (ask (ltb rate 3) 2 0)
    (then (ask (both (eqb (length word) 1890) (eqb n (block_bytes rate))) 8 0)
    (then (ask (eqb (words.first_wrong rate (words.coded_in word) (words.input_in rate word)) 15120) 13 (words.first_wrong rate (words.coded_in word) (words.input_in rate word)))
    (then (ask (words.ends_in_zeros rate (words.input_in rate word)) 14 0)
    (ask (words.check_right rate (words.input_in rate word)) 15 0))))

-- ---- runs

-- the writer: the header, its marker symbols, the factor, and the lengths of marker, frames and slots
abbrev pub RunWriterAsks : Type 0
RunWriterAsks =
    (header marker frames : List ℕ) (n : ℕ)
    → run_write_says header marker frames n
    ≡ then (ask (question1 header) 1 0)
    (then (ask (question2 (fields_of header)) 2 0)
    (then (ask (question3 (fields_of header)) 3 0)
    (then (ask (question4 (fields_of header)) 4 0)
    (then (ask (question5 (fields_of header)) 5 0)
    (then (ask (question6 (fields_of header)) 6 0)
    (then (ask (question7 (fields_of header)) 7 0)
    (then (ask (marks_good (fields_of header) marker) 7 0)
    (then (ask (question20 (fields_of header)) 20 0)
    (ask (run_lengths_right (fields_of header) (length marker) (length frames) n) 8 0)))))))))

-- the reader: the same of its slices, and then the slots, each question over the whole buffer (f are the header's fields, p is its plan)
abbrev pub RunReaderAsks : Type 0
RunReaderAsks =
    (header marker slots : List ℕ) (n : ℕ) (f : Fields) (p : Plan) → f ≡ fields_of header → p ≡ plan_in header marker
    → run_read_says header marker slots n
    ≡ then
    (then (ask (question1 header) 1 0)
    (then (ask (question2 f) 2 0)
    (then (ask (question3 f) 3 0)
    (then (ask (question4 f) 4 0)
    (then (ask (question5 f) 5 0)
    (then (ask (question6 f) 6 0)
    (then (ask (question7 f) 7 0)
    (then (ask (marks_good f marker) 7 0)
    (then (ask (question20 f) 20 0)
    (ask (run_lengths_right f (length marker) n (length slots)) 8 0))))))))))
    (then (ask (spare_slots_empty p slots) 9 0)
    (then (ask (eqb (first_bad_symbol p slots) (layout_symbols p.layout)) 10 (first_bad_symbol p slots))
    (then (ask (eqb (first_bad_mark p slots) (layout_symbols p.layout)) 11 (first_bad_mark p slots))
    (then (ask (eqb (first_bad_rest p slots) (layout_symbols p.layout)) 12 (first_bad_rest p slots))
    (then (put_in_order (block_count f) (λ j. word_read_says f.rate (word_out p slots j) (block_bytes f.rate)))
    (then (ask (eqb (first_unmarked f.size f.frames (runs.stream_in f (word_out p slots))) f.frames) 16 (first_unmarked f.size f.frames (runs.stream_in f (word_out p slots))))
    (ask (fill_zero f.size f.frames (block_count f * info_bits f.rate) (runs.stream_in f (word_out p slots))) 18 0)))))))

-- 8 of a run: A-as-F bytes of frames, W marker symbols, and the slots
abbrev pub LengthsAre : Type 0
LengthsAre =
    (f : Fields) (marker_length frames_length slots_length : ℕ)
    → run_lengths_right f marker_length frames_length slots_length
    ≡ both (eqb marker_length f.markers) (both (eqb frames_length (f.frames * f.size)) (eqb slots_length (sizes.slot_bytes f)))

-- `run_says` is 1 to 7 of a header and its marker symbols, and 20; `call_says` has 8 after them
abbrev pub RunAnswers : Type 0
RunAnswers =
    (header marker : List ℕ) (frames_length slots_length : ℕ)
    → (run_says header marker ≡ then (form_says header) (then (ask (marks_good (fields_of header) marker) 7 0) (ask (question20 (fields_of header)) 20 0)))
    × (call_says header marker frames_length slots_length
    ≡ then (run_says header marker) (ask (run_lengths_right (fields_of header) (length marker) frames_length slots_length) 8 0))

-- the plan of a header with its marker symbols has these numbers; the lent symbols are carried along up to the W-th
abbrev pub PlanIs : Type 0
PlanIs =
    (header marker : List ℕ) (f : Fields) (p : Plan) → f ≡ fields_of header → p ≡ plan_in header marker
    → (p.copies ≡ f.copies) × (p.bits ≡ f.bits) × (p.layout.rows ≡ f.rows) × (p.layout.step ≡ f.step)
    × (p.order ≡ 2 ^ f.bits) × (p.group ≡ 2 ^ f.bits + 2 ^ f.bits / 4)
    × (p.layout.symbols ≡ sizes.symbols_per_word f) × (p.layout.words ≡ block_count f) × (p.layout.lines ≡ sizes.line_count f)
    × (p.layout.markers ≡ f.markers)
    × ((i : ℕ) → i < 32 → i < min (length marker) f.markers → get_or p.marks i 0 ≡ get_or marker i 0)
    × (layout_symbols p.layout ≡ p.layout.lines * (p.layout.symbols + p.layout.markers))

abbrev pub SlicesAfter : Type 0
SlicesAfter =
    (rate bit s n q : ℕ) (side : Side) (block word header marker frames slots eight capture fades old : List ℕ)
    → (word_after rate block old ≡ after (word_write_says rate block (length old)) (words.word_of rate block) old)
    × (block_after rate word old ≡ after (word_read_says rate word (length old)) (words.block_in rate word) old)
    × (slots_after header marker frames old ≡ after (run_write_says header marker frames (length old)) (runs.run_of header marker frames) old)
    × (frames_after header marker slots old ≡ after (run_read_says header marker slots (length old)) (runs.frames_read header marker slots) old)
    × (words_after rate block old ≡ after (pass_write_says rate block (length old)) (passes.words_of rate block) old)
    × (blocks_after rate word old ≡ after (pass_read_says rate word (length old)) (passes.blocks_of rate word) old)
    × (places_after rate bit old ≡ after (spread_says rate bit (length old)) (spread_of rate bit) old)
    × (ten_after eight old ≡ after (widen_says eight (length old)) (widened eight) old)
    × (eight_after header old ≡ after (narrow_says header (length old)) (narrowed header) old)
    × (cut_after header capture s old ≡ after (cut_says header (length capture) s (length old)) (cut_of (fields_of header) capture s) old)
    × (counts_after header fades old ≡ after (fades_say header fades (length old)) (counts_in header fades) old)
    × (area_after side header n q old ≡ after (step_says header q (length old)) (leaves side (fields_of header) n q old) old)
    × (uplink_slots_after frames old ≡ after (uplink_write_says frames (length old)) (uplink_slots_of frames) old)
    × (uplink_frames_after slots old ≡ after (uplink_read_says slots (length old)) (uplink_frames_of slots) old)

-- a refused call leaves the lent slice as it was; the cards say so of the later calls
abbrev pub RefusedWordWrite : Type 0
RefusedWordWrite =
    (rate : ℕ) (block old : List ℕ) (number place : ℕ) → word_write_says rate block (length old) ≡ No number place → word_after rate block old ≡ old

abbrev pub RefusedWordRead : Type 0
RefusedWordRead =
    (rate : ℕ) (word old : List ℕ) (number place : ℕ) → word_read_says rate word (length old) ≡ No number place → block_after rate word old ≡ old

abbrev pub RefusedRunWrite : Type 0
RefusedRunWrite =
    (header marker frames old : List ℕ) (number place : ℕ) → run_write_says header marker frames (length old) ≡ No number place
    → slots_after header marker frames old ≡ old

abbrev pub RefusedRunRead : Type 0
RefusedRunRead =
    (header marker slots old : List ℕ) (number place : ℕ) → run_read_says header marker slots (length old) ≡ No number place
    → frames_after header marker slots old ≡ old

-- by the rack calls too (Card10)
abbrev pub ToldCode : Type 0
ToldCode = (area : List ℕ) (call : racks.Call) → (racks.told_of area call).code ≡ code_of (racks.says area call)

-- ---- what is promised, all of it: the contract of `demand_1`
pub record Demand1 : Type 0 where
  pub word_writer_asks : WordWriterAsks
  pub word_reader_asks : WordReaderAsks
  pub run_writer_asks : RunWriterAsks
  pub run_reader_asks : RunReaderAsks
  pub lengths_are : LengthsAre
  pub run_answers : RunAnswers
  pub plan_is : PlanIs
  pub slices_after : SlicesAfter
  pub refused_word_write : RefusedWordWrite
  pub refused_word_read : RefusedWordRead
  pub refused_run_write : RefusedRunWrite
  pub refused_run_read : RefusedRunRead
  pub told_code : ToldCode
