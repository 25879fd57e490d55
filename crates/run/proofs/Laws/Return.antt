-- The two ways undo each other: what is written is read; what is read pools to the symbols of a run; and where each symbol is sent once, it was written.
use mathlib.Core.Path.{◌≡◌, refl, sym, ap, ◌∙◌}
use mathlib.Core.Bool.{true}
use mathlib.Core.List.{List}
use Prim.Native.Nat.{ℕ, ◌*◌, ◌≤◌, ◌<◌}
use native.Mathlib.Omega.{arith}
use lib.ListN.{length}
use borrow.Author.Tests.{lt-ltb, le-ltb}
use Rattle.bits.proofs.Laws.First.{found_at}
use Rattle.bits.specs.Pack.{Bytes, Bits}
use Rattle.answers.proofs.Laws.Answer.{then_done, fits_then, all_done, done_all, fits_order}
use Rattle.answers.specs.Inner.{Fits}
use Rattle.answers.specs.Answer.{Done, No}
use Rattle.sizes.specs.Sizes.{info_bits, block_bytes, span}
use Rattle.word.proofs.Laws.Word.{Packed}
use Rattle.word.specs.Word.{word_of, block_in, word_read_says}
use Rattle.word.proofs.Laws.Exports.{word_length_lem, word_bytes_lem, packed_read, read_packed, read_fits as word_fits}
use Rattle.header.specs.Header.{fields_of}
use Rattle.parameters.specs.Parameters.{parameters_of}
use Rattle.header_sizes.specs.Quantities as quantities
use Rattle.header_sizes.specs.Inner.{Valid}
use Rattle.header_sizes.proofs.Laws.Bounds as bounds
use Rattle.header.specs.declared.Fields.{Fields}
use Rattle.plan.specs.declared.Plan.{Plan}
use Rattle.plan.specs.Plan.{plan_of, plan_in}
use Rattle.plan.specs.Inner.{Fine}
use Rattle.plan.specs.Lengths.{call_says}
use Rattle.plan.proofs.Laws.Accepted.{Ready, ready, plan_words, let_in, call_fits}
use Rattle.channel.specs.Channel.{layout_symbols}
use Rattle.stream_writer.specs.Stream.{stream_bit, block_at}
use Rattle.stream_writer.proofs.Laws.Stream.{stream_bits, block_packed, block_same}
use Rattle.stream_reader.specs.Frames.{joined}
use Rattle.stream_reader.proofs.Laws.Blocks.{joined_bits, joined_same, joined_blocks, blocks_made}
use Rattle.stream_reader.proofs.Laws.Back.{frames_fit, frames_are, frames_back, stream_made}
use Rattle.slots.specs.Writing.{run_slots}
use Rattle.slots.proofs.Laws.Slots.{symbol_same, slots_same, length_slots}
use Rattle.slots.specs.Reading.{spare_slots_empty, pooled_in, first_bad_symbol, word_out, slots_say}
use Rattle.slots.specs.Inner.{decided_in}
use Rattle.slots.proofs.Laws.Return.{say_group, read_slots, pass_spare, pooled_good, good_pooled, good_slots, word_out_bytes, slots_fit}
use Rattle.pool.specs.Pooled.{first_undecided}
use Rattle.run.specs.Run.{stream_of, word_at, run_of, stream_in, frames_of, frames_read, PoolsTo, run_word_says, words_say, stream_says, buffer_says, run_write_says, run_read_says}

-- the marked frames fit the blocks
pub fit : (f : Fields) → Valid f → f.frames * span f.size ≤ quantities.block_count f * info_bits f.rate
unfolding quantities.marked_bits
fit f v = bounds.blocks_hold f v

-- ---- what was written is read

module _ (f : Fields) (v : Valid f) (frames : List ℕ) (long : length frames ≡ quantities.frame_bytes f) (bytes : Bytes frames) where
  -- the block of the stream, and its word
  block : ℕ → List ℕ
  block j = block_at f.rate (stream_of f frames) j

  stream_is : Bits (stream_of f frames)
  unfolding stream_of
  stream_is = stream_bits f.size f.frames frames

  packed : (j : ℕ) → Packed f.rate (block j)
  unfolding block
  packed j =
      let p = block_packed f.rate (stream_of f frames) v.rate stream_is j in
      record { size = p.0; bytes = p.1; spare = p.2 }

  -- any words that agree with these are accepted, and give the frames back
  module _ (word : ℕ → List ℕ) (agree : (j : ℕ) → j < quantities.block_count f → word j ≡ word_at f frames j) where
    read_block : (j : ℕ) → j < quantities.block_count f → (run_word_says f word j ≡ Done) × (block_in f.rate (word j) ≡ block j)
    unfolding run_word_says word_at block
    read_block j l =
        let r = packed_read f.rate (block j) v.rate (packed j) in
        (ap (λ (w : List ℕ). word_read_says f.rate w (block_bytes f.rate)) (agree j l) ∙ r.0, ap (block_in f.rate) (agree j l) ∙ r.1)

    words_pass : words_say f word ≡ Done
    unfolding words_say
    words_pass = done_all (quantities.block_count f) (run_word_says f word) (λ j l. (read_block j l).0)

    stream_agrees : (x : ℕ) → x < quantities.block_count f * info_bits f.rate → stream_in f word x ≡ stream_bit f.size f.frames frames x
    unfolding stream_in stream_of block
    stream_agrees x l =
        joined_same f.rate (quantities.block_count f) (λ j. block_in f.rate (word j)) block (λ j k. (read_block j k).1) x l
        ∙ joined_blocks f.rate (stream_of f frames) v.rate stream_is x

    frames_pass : (stream_says f word ≡ Done) × (frames_of f word ≡ frames)
    unfolding stream_says frames_of quantities.frame_bytes
    frames_pass =
        frames_back f.size f.frames (quantities.block_count f * info_bits f.rate) v.size_least (fit f v) frames (stream_in f word) stream_agrees long bytes

-- the words of a header's plan
words_are : (header marker : List ℕ) → (plan_in header marker).layout.words ≡ quantities.block_count (fields_of header)
unfolding parameters_of
words_are header marker = plan_words (parameters_of (fields_of header) marker)

-- ---- what is read was written

frames_long : (f : Fields) (word : ℕ → List ℕ) → length (frames_of f word) ≡ quantities.frame_bytes f
unfolding frames_of stream_in quantities.frame_bytes
frames_long f word = (frames_are f.size f.frames (stream_in f word) (joined_bits f.rate (λ j. block_in f.rate (word j)))).0

-- words that are accepted, with frames in their stream, are the words of those frames
module _ (f : Fields) (v : Valid f) (word : ℕ → List ℕ) (bytes : (j : ℕ) → Bytes (word j)) (said : words_say f word ≡ Done) (framed : stream_says f word ≡ Done) where
  accepted : (j : ℕ) → j < quantities.block_count f → run_word_says f word j ≡ Done
  unfolding words_say
  accepted = all_done (quantities.block_count f) (run_word_says f word) said

  word_again : (j : ℕ) → j < quantities.block_count f → word_at f (frames_of f word) j ≡ word j
  unfolding word_at frames_of stream_of stream_in run_word_says stream_says
  word_again j l =
      let g : ℕ → List ℕ = λ j. block_in f.rate (word j) in
      let st : ℕ → ℕ = joined f.rate g in
      let q = read_packed f.rate (word j) (block_bytes f.rate) (bytes j) (accepted j l) in
      ap (word_of f.rate)
      (block_same f.rate (quantities.block_count f) (stream_bit f.size f.frames (frames_of f word)) st
      (stream_made f.size f.frames (quantities.block_count f * info_bits f.rate) v.size_least (fit f v) st (joined_bits f.rate g) framed) j l
      ∙ sym (blocks_made f.rate g j v.rate q.0.size q.0.bytes q.0.spare))
      ∙ q.1

-- A slot buffer whose pooled symbols are those of the run of some frames, with no spare bit set, is accepted, and gives those frames.
pub pooled_read : (header marker frames slots : List ℕ) → Bytes frames → run_write_says header marker frames (length slots) ≡ Done
    → spare_slots_empty (plan_in header marker) slots ≡ true → PoolsTo header marker slots frames
    → (run_read_says header marker slots (length frames) ≡ Done) × (frames_read header marker slots ≡ frames)
unfolding run_write_says run_read_says buffer_says frames_read word_at
pooled_read header marker frames slots b e spare same =
    let f : Fields = fields_of header in
    let p : Plan = plan_in header marker in
    let r : Ready header marker (length frames) (length slots) = ready header marker (length frames) (length slots) e in
    let c =
    pooled_good p (word_at f frames) slots r.fine
    (λ j l. word_length_lem f.rate (block_at f.rate (stream_of f frames) j)) (λ j l. word_bytes_lem f.rate (block_at f.rate (stream_of f frames) j)) spare same in
    let word : ℕ → List ℕ = word_out p slots in
    let agree : (j : ℕ) → j < quantities.block_count f → word j ≡ word_at f frames j = λ j l. c.1 j (omega (arith, words_are header marker)) in
    let w : words_say f word ≡ Done = words_pass f r.valid frames r.frames_are b word agree in
    let t = frames_pass f r.valid frames r.frames_are b word agree in
    (rw (e, c.0, w) t.0, t.1)

-- If frames are written to a slot buffer, the reader accepts that buffer and returns those frames.
pub written_read : (header marker frames : List ℕ) (n : ℕ) → Bytes frames → run_write_says header marker frames n ≡ Done
    → (run_read_says header marker (run_of header marker frames) (length frames) ≡ Done) × (frames_read header marker (run_of header marker frames) ≡ frames)
unfolding run_write_says run_of
written_read header marker frames n b e =
    let f : Fields = fields_of header in
    let p : Plan = plan_in header marker in
    let r : Ready header marker (length frames) n = ready header marker (length frames) n e in
    let word : ℕ → List ℕ = word_at f frames in
    pooled_read header marker frames (run_slots p word) b
    (let_in header marker (length frames) n (length frames) (length (run_slots p word)) e r.frames_are (length_slots p word))
    (pass_spare p r.fine word) (read_slots p r.fine word)

-- If the reader accepts a slot buffer with some frames, the writer accepts those frames, the buffer's pooled symbols are those of their run, and no spare
-- bit is set.
pub read_pooled : (header marker slots : List ℕ) (n : ℕ) → run_read_says header marker slots n ≡ Done
    → (run_write_says header marker (frames_read header marker slots) (length slots) ≡ Done)
    × (spare_slots_empty (plan_in header marker) slots ≡ true)
    × PoolsTo header marker slots (frames_read header marker slots)
unfolding run_write_says run_read_says buffer_says frames_read
read_pooled header marker slots n e =
    let f : Fields = fields_of header in
    let p : Plan = plan_in header marker in
    let word : ℕ → List ℕ = word_out p slots in
    let d1 = then_done (call_says header marker n (length slots)) (buffer_says f p slots) e in
    let d9 = then_done (slots_say p slots) _ d1.1 in
    let d13 = then_done (words_say f word) (stream_says f word) d9.1 in
    let r : Ready header marker n (length slots) = ready header marker n (length slots) d1.0 in
    let c = good_pooled p slots r.fine d9.0 in
    let again : (j : ℕ) → j < p.layout.words → word_at f (frames_of f word) j ≡ word j = λ j l.
    word_again f r.valid word (word_out_bytes p slots) d13.0 d13.1 j (omega (arith, words_are header marker)) in (
      let_in header marker n (length slots) (length (frames_of f word)) (length slots) d1.0 (frames_long f word) r.slots_are,
      c.0,
      λ s l. c.1 s l ∙ sym (symbol_same p (word_at f (frames_of f word)) word again s),
    )

-- If the reader accepts a slot buffer in which each symbol is sent once, the writer writes that very buffer for the frames that it gives.
pub read_written : (header marker slots : List ℕ) (n : ℕ) → (fields_of header).copies ≡ 1 → Bytes slots → run_read_says header marker slots n ≡ Done
    → (run_write_says header marker (frames_read header marker slots) (length slots) ≡ Done) × (run_of header marker (frames_read header marker slots) ≡ slots)
unfolding run_read_says buffer_says run_of frames_read plan_of parameters_of
read_written header marker slots n one b e =
    let f : Fields = fields_of header in
    let p : Plan = plan_in header marker in
    let word : ℕ → List ℕ = word_out p slots in
    let d1 = then_done (call_says header marker n (length slots)) (buffer_says f p slots) e in
    let d9 = then_done (slots_say p slots) _ d1.1 in
    let d13 = then_done (words_say f word) (stream_says f word) d9.1 in
    let r : Ready header marker n (length slots) = ready header marker n (length slots) d1.0 in (
      (read_pooled header marker slots n e).0,
      slots_same p (word_at f (frames_of f word)) word (λ j l.
          word_again f r.valid word (word_out_bytes p slots) d13.0 d13.1 j (omega (arith, words_are header marker)))
          ∙ good_slots p slots r.fine one r.slots_are b d9.0,
    )

-- The first symbol that its copies do not decide is the place of question 10.
pub undecided_place : (header marker slots : List ℕ) (n s : ℕ) → call_says header marker n (length slots) ≡ Done
    → spare_slots_empty (plan_in header marker) slots ≡ true → s < layout_symbols (plan_in header marker).layout
    → ((i : ℕ) → i < s → pooled_in (plan_in header marker) slots i < (plan_in header marker).order)
    → (plan_in header marker).order ≤ pooled_in (plan_in header marker) slots s
    → run_read_says header marker slots n ≡ No 10 s
unfolding run_read_says buffer_says first_undecided
undecided_place header marker slots n s e spare l before bad =
    let p : Plan = plan_in header marker in
    let first : first_bad_symbol p slots ≡ s =
    found_at (decided_in p slots) 0 (layout_symbols p.layout) s (omega arith) l (λ i a k. lt-ltb (pooled_in p slots i) p.order (before i k)) (le-ltb (pooled_in p slots s) p.order bad) in
    let said : No 10 s ≡ slots_say p slots = say_group p slots spare s (sym first) (λ q. omega arith) in
    rw (e, ← said) refl

-- ---- the answers fit the number that C gets

pub write_fits : (header marker frames : List ℕ) (n : ℕ) → Fits (run_write_says header marker frames n)
unfolding run_write_says
write_fits header marker frames n = call_fits header marker (length frames) n

buffer_fits : (f : Fields) (p : Plan) (slots : List ℕ) → Valid f → Fine p → Fits (buffer_says f p slots)
unfolding buffer_says words_say run_word_says stream_says
buffer_fits f p slots v fine =
    let word : ℕ → List ℕ = word_out p slots in
    let most = bounds.blocks_most f v in
    let few = v.frames_most in
    fits_then (slots_say p slots) _ (slots_fit p slots fine)
    (λ e. fits_then (words_say f word) (stream_says f word) (fits_order (quantities.block_count f) (run_word_says f word) (omega arith) (λ j. word_fits f.rate (word j) (block_bytes f.rate)))
    (λ g. frames_fit f.size f.frames (quantities.block_count f * info_bits f.rate) (stream_in f word) (omega arith)))

pub read_fits : (header marker slots : List ℕ) (n : ℕ) → Fits (run_read_says header marker slots n)
unfolding run_read_says
read_fits header marker slots n =
    fits_then (call_says header marker n (length slots)) (buffer_says (fields_of header) (plan_in header marker) slots) (call_fits header marker n (length slots))
    (λ e. let r = ready header marker n (length slots) e in buffer_fits (fields_of header) (plan_in header marker) slots r.valid r.fine)
