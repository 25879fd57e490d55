-- Runs: the slots of frames under a header and its marker symbols, the way back, and the questions in the specification's order (docs/SPECIFICATION.md).
-- Words are known by the names of crate `word` alone: its definitions are not opened here.
use Rattle.std.specs.Prelude.{◌≡◌, List, ℕ, ◌*◌, ◌<◌, length}
use Rattle.answers.specs.Answer.{Answer, after, then, put_in_order}
use Rattle.sizes.specs.Sizes.{info_bits, block_bytes}
use Rattle.word.specs.Word.{word_of, block_in, word_read_says}
use Rattle.header.specs.Header.{fields_of}
use Rattle.header_sizes.specs.Quantities.{block_count}
use Rattle.header.specs.declared.Fields.{Fields}
use Rattle.plan.specs.declared.Plan.{Plan}
use Rattle.plan.specs.Plan.{plan_in}
use Rattle.plan.specs.Lengths.{call_says}
use Rattle.channel.specs.Channel.{layout_symbols}
use Rattle.stream_writer.specs.Stream.{stream_bit, block_at}
use Rattle.stream_reader.specs.Frames.{joined, frames_in, frames_say}
use Rattle.slots.specs.Writing.{symbol_at, run_slots}
use Rattle.slots.specs.Reading.{pooled_in, word_out, slots_say}

-- ---- from frames to slots

-- step 1: the stream of the marked frames; step 7, and then steps 2 to 6: the word of its block j
unfoldable pub stream_of : Fields → List ℕ → ℕ → ℕ
stream_of f frames = stream_bit f.size f.frames frames

unfoldable pub word_at : Fields → List ℕ → ℕ → List ℕ
word_at f frames j = word_of f.rate (block_at f.rate (stream_of f frames) j)

-- steps 8 to 10: the slots
unfoldable pub run_of : List ℕ → List ℕ → List ℕ → List ℕ
run_of header marker frames = run_slots (plan_in header marker) (word_at (fields_of header) frames)

-- ---- and back

-- the stream that the blocks of the words in slots make
unfoldable pub stream_in : Fields → (ℕ → List ℕ) → ℕ → ℕ
stream_in f word = joined f.rate (λ j. block_in f.rate (word j))

unfoldable pub frames_of : Fields → (ℕ → List ℕ) → List ℕ
frames_of f word = frames_in f.size f.frames (stream_in f word)

unfoldable pub frames_read : List ℕ → List ℕ → List ℕ → List ℕ
frames_read header marker slots = frames_of (fields_of header) (word_out (plan_in header marker) slots)

-- the pooled symbols in slots are those of the run of these frames
abbrev pub PoolsTo : List ℕ → List ℕ → List ℕ → List ℕ → Type 0
PoolsTo header marker slots frames =
    (s : ℕ) → s < layout_symbols (plan_in header marker).layout → pooled_in (plan_in header marker) slots s ≡ symbol_at (plan_in header marker) (word_at (fields_of header) frames) s

-- ---- the questions

-- 13 to 15, of one word after another: what the word reader says of word j; the first word that gives no block is the place
unfoldable pub run_word_says : Fields → (ℕ → List ℕ) → ℕ → Answer
run_word_says f word j = word_read_says f.rate (word j) (block_bytes f.rate)

unfoldable pub words_say : Fields → (ℕ → List ℕ) → Answer
words_say f word = put_in_order (block_count f) (run_word_says f word)

-- 16 and 18, of the stream that the words hold
unfoldable pub stream_says : Fields → (ℕ → List ℕ) → Answer
stream_says f word = frames_say f.size f.frames (block_count f * info_bits f.rate) (stream_in f word)

-- the reader, of slots of the right length: 9 to 12, then 13 to 15, then 16 and 18
unfoldable pub buffer_says : Fields → Plan → List ℕ → Answer
buffer_says f p slots = then (slots_say p slots) (then (words_say f (word_out p slots)) (stream_says f (word_out p slots)))

-- the two calls: 1 to 7, 20 and 8, and the reader's own
unfoldable pub run_write_says : List ℕ → List ℕ → List ℕ → ℕ → Answer
run_write_says header marker frames slots_length = call_says header marker (length frames) slots_length

unfoldable pub run_read_says : List ℕ → List ℕ → List ℕ → ℕ → Answer
run_read_says header marker slots frames_length =
    then (call_says header marker frames_length (length slots)) (buffer_says (fields_of header) (plan_in header marker) slots)

-- what the slice lent for the result holds afterwards: the result on acceptance, otherwise what it held
abbrev pub slots_after : List ℕ → List ℕ → List ℕ → List ℕ → List ℕ
slots_after header marker frames old = after (run_write_says header marker frames (length old)) (run_of header marker frames) old

abbrev pub frames_after : List ℕ → List ℕ → List ℕ → List ℕ → List ℕ
frames_after header marker slots old = after (run_read_says header marker slots (length old)) (frames_read header marker slots) old
