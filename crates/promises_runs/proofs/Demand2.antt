-- The proofs of demand 2.
use mathlib.Core.Path.{◌≡◌, refl, sym, ap, ◌∙◌}
use mathlib.Core.List.{List}
use mathlib.Core.Logic.{⊎_elim}
use Prim.Native.Nat.{ℕ, zero, suc, ◌+◌, ◌*◌, ◌/◌, ◌^◌, ◌≤◌, ◌<◌}
use native.Mathlib.Omega.{arith}
use native.Mathlib.Nat.{div-lt_iff_lt-mul, one-le-pow}
use lib.Arith.{digits_lt}
use lib.Dec.{eqb}
use lib.ListN.{length}
use Rattle.bits.specs.Basics.{bool}
use Rattle.bits.proofs.Laws.Choice.{lt_or_le}
use Rattle.bits.specs.Pack.{Bits, bit_at, cut}
use Rattle.bits.proofs.Laws.Pack.{length_bytes, bit_bytes, bit_bytes_past, cut_in, cut_bits, bytes_are as packed-bytes}
use Rattle.answers.specs.Answer.{Answer, Done, after}
use Rattle.sizes.specs.Sizes.{word_bytes, info_bits, block_bytes}
use Rattle.word.specs.Word as words
use Rattle.word.specs.Word.{word_read_says, word_write_says}
use Rattle.word.proofs.Laws.Answers as answer_laws
use Rattle.word.proofs.Laws.Exports as exports
use Rattle.word.proofs.Laws.Return as word_laws
use Rattle.header.specs.Header.{fields_of}
use Rattle.header.specs.declared.Fields.{Fields}
use Rattle.header_sizes.specs.Quantities.{symbols_per_word, layout_of}
use Rattle.parameters.specs.Parameters.{parameters_of}
use Rattle.plan.specs.declared.Plan.{Plan}
use Rattle.plan.specs.Plan.{plan_of, plan_in, sent_count}
use Rattle.plan.specs.Inner.{slot_bytes}
use Rattle.stream_writer.specs.Stream.{marker_bit, block_at}
use Rattle.stream_writer.proofs.Laws.Stream as streams
use Rattle.stream_reader.specs.Frames.{joined}
use Rattle.stream_reader.proofs.Laws.Blocks.{joined_bits}
use Rattle.stream_reader.proofs.Laws.Back.{frames_are}
use Rattle.channel.specs.Channel as channel
use Rattle.channel.specs.Channel.{layout_symbols}
use Rattle.pulses.proofs.Laws.Pulses as pulses
use Rattle.slots.specs.Writing.{sent_at}
use Rattle.slots.specs.Reading.{word_out}
use Rattle.run.specs.Run as runs
use Rattle.run.specs.Steps as steps
use Rattle.run.proofs.Laws.Return as run_laws
use Rattle.run.proofs.Laws.Steps as step_laws
use Rattle.word.specs.After.{word_after, block_after}
use Rattle.run.specs.Run.{slots_after, frames_after, run_read_says}
use Rattle.promises_runs.proofs.Accepted.{asked, marks_are, group_is, count_is}
use Rattle.promises_runs.specs.Demand2.{Demand2, StreamIs, BlockIs, WordIs, SymbolIs, PlaceIs, LineIs, SlotIs, RunBytes, RunWrittenRead, RunReadWritten, RunOne, RunThereAndBack, WordBytes, SameBitsIs, SpareZeroIs, WordWrittenRead, WordWhole, WordReadWritten, WordOne, WordThereAndBack}

pub stream_is : StreamIs
unfolding marker_bit
stream_is header marker frames F A eF eA = (
  λ j r l h. rw eF (streams.stream_mark (fields_of header).size (fields_of header).frames frames j r (rw (← eA) l) h),
  λ j r l h. rw eF (streams.stream_frame (fields_of header).size (fields_of header).frames frames j r (rw (← eA) l) (rw (← eF) h)),
  λ x h. streams.stream_fill (fields_of header).size (fields_of header).frames frames x (rw (← eF, ← eA) h),
)

-- the bits of block j of any stream, whatever the rate
block_bit : (rate : ℕ) (stream : ℕ → ℕ) → Bits stream → (j i : ℕ) → i < info_bits rate → bit_at (block_at rate stream j) i ≡ stream (j * info_bits rate + i)
unfolding block_at block_bytes
block_bit rate stream b j i l =
    let f : ℕ → ℕ = λ i. stream (j * info_bits rate + i) in
    bit_bytes (block_bytes rate) (cut (info_bits rate) f) (cut_bits (info_bits rate) f (λ i. b (j * info_bits rate + i))) i (omega arith) ∙ cut_in (info_bits rate) f i l

pub block_is : BlockIs
block_is header marker frames k e j i l =
    rw e (block_bit (fields_of header).rate (steps.step1 header marker frames) (streams.stream_bits (fields_of header).size (fields_of header).frames frames) j i (rw (← e) l))

pub word_is : WordIs
word_is header marker frames j = refl

pub symbol_is : SymbolIs
unfolding plan_of parameters_of symbols_per_word layout_of
symbol_is header marker frames m S em eS t = rw (eS, em) (step_laws.symbol_is header marker frames t)

pub place_is : PlaceIs
unfolding plan_of parameters_of symbols_per_word layout_of channel.place
place_is header marker frames N B total eN eB et = (
  λ t l. rw (eN, eB) (step_laws.standing_is header marker frames t (rw (← et) l)),
  λ x none. step_laws.standing_none header marker frames x (λ t l e. none t (rw et l) (rw (eN, eB) e)),
)

pub line_is : LineIs
unfolding plan_of parameters_of symbols_per_word layout_of
line_is header marker frames n e W S eW eS = (
  λ line w l.
      let few : w < (fields_of header).markers = omega arith in
      rw (eW, eS) (step_laws.marker_is header marker frames line w few)
      ∙ marks_are header marker (length frames) n (asked header marker frames n e) w few,
  λ line i l. rw (eW, eS) (step_laws.place_is header marker frames line i (rw (← eS) l)),
)

-- the slots in the plan's numbers
module _ (header marker frames : List ℕ) where
  abbrev p : Plan
  p = plan_in header marker

  slot_bits : Bits (steps.slot header marker frames)
  slot_bits = pulses.slot_bits p.group (sent_count p) (sent_at p (steps.word header marker frames))

  slot_inside : (x : ℕ) → x < 8 * slot_bytes p → bit_at (runs.run_of header marker frames) x ≡ steps.slot header marker frames x
  slot_inside x l = rw (step_laws.run_is header marker frames) (bit_bytes (slot_bytes p) (steps.slot header marker frames) slot_bits x l)

  slot_here : (s c r : ℕ) → s < layout_symbols p.layout → c < p.copies → r < p.group
      → bit_at (runs.run_of header marker frames) ((s * p.copies + c) * p.group + r) ≡ bool (eqb r (steps.step10 header marker frames s))
  unfolding plan_of parameters_of
  slot_here s c r h k l =
      let inside : (s * p.copies + c) * p.group + r < sent_count p * p.group = digits_lt (digits_lt h k) l in
      slot_inside ((s * p.copies + c) * p.group + r) (omega arith) ∙ step_laws.slot_is header marker frames s c r h k l

  slot_behind : 0 < p.group → (x : ℕ) → sent_count p * p.group ≤ x → bit_at (runs.run_of header marker frames) x ≡ 0
  unfolding plan_of parameters_of
  slot_behind some x h =
      ⊎_elim
      (λ (l : x < 8 * slot_bytes p). slot_inside x l ∙ step_laws.slot_none header marker frames x
      (⊎_elim (λ (a : x / p.group < sent_count p). let c : x < sent_count p * p.group = (div-lt_iff_lt-mul some).0 a in absurd (omega arith)) (λ (a : sent_count p ≤ x / p.group). a) (lt_or_le (x / p.group) (sent_count p))))
      (λ (l : 8 * slot_bytes p ≤ x). rw (step_laws.run_is header marker frames) (bit_bytes_past (slot_bytes p) (steps.slot header marker frames) x l))
      (lt_or_le x (8 * slot_bytes p))

  slots_long : length (runs.run_of header marker frames) ≡ slot_bytes p
  slots_long = rw (step_laws.run_is header marker frames) (length_bytes (slot_bytes p) (steps.slot header marker frames))

pub slot_is : SlotIs
unfolding plan_of parameters_of
slot_is header marker frames M G K symbols eM eG eK es =
    let g : G ≡ (plan_in header marker).group = group_is header marker M G eM eG in
    let c : symbols ≡ layout_symbols (plan_in header marker).layout = es ∙ sym (count_is header marker) in
    let k : K ≡ (plan_in header marker).copies = eK in
    let some : 0 < (plan_in header marker).group = let o : 1 ≤ 2 ^ (fields_of header).bits = one-le-pow (fields_of header).bits 2 (omega arith) in omega arith in (
      λ s i r ls li lr. rw (g, k) (slot_here header marker frames s i r (rw (← c) ls) (rw (← k) li) (rw (← g) lr)),
      λ x h. slot_behind header marker frames some x (rw (← g, ← c, ← k) h),
      slots_long header marker frames ∙ rw (g, c, k) refl,
    )

pub run_bytes : RunBytes
unfolding runs.frames_read runs.frames_of runs.stream_in
run_bytes header marker xs =
    let f : Fields = fields_of header in
    let g : ℕ → List ℕ = λ j. words.block_in f.rate (word_out (plan_in header marker) xs j) in (
      rw (step_laws.run_is header marker xs) (packed-bytes (slot_bytes (plan_in header marker)) (steps.slot header marker xs) (slot_bits header marker xs)),
      (frames_are f.size f.frames (joined f.rate g) (joined_bits f.rate g)).1,
    )

pub run_written_read : RunWrittenRead
run_written_read = run_laws.written_read

pub run_read_written : RunReadWritten
run_read_written = run_laws.read_written

pub run_one : RunOne
run_one header marker a b n m ha hb wa wb e =
    sym (run_written_read header marker a n ha wa).1 ∙ ap (runs.frames_read header marker) e ∙ (run_written_read header marker b m hb wb).1

pub run_there_and_back : RunThereAndBack
run_there_and_back header marker frames slots back b w e =
    let r = run_written_read header marker frames (length slots) b w in
    let written : slots_after header marker frames slots ≡ runs.run_of header marker frames = ap (λ (a : Answer). after a (runs.run_of header marker frames) slots) w in
    let said : run_read_says header marker (runs.run_of header marker frames) (length back) ≡ Done = ap (run_read_says header marker (runs.run_of header marker frames)) e ∙ r.0 in
    ap (λ (s : List ℕ). frames_after header marker s back) written
    ∙ ap (λ (a : Answer). after a (runs.frames_read header marker (runs.run_of header marker frames)) back) said
    ∙ r.1

pub word_bytes_lem : WordBytes
word_bytes_lem rate xs = (exports.word_bytes_lem rate xs, (exports.block_packed rate xs).bytes)

pub same_bits_is : SameBitsIs
same_bits_is rate a b = ((λ h. h), (λ h. h))

pub spare_zero_is : SpareZeroIs
spare_zero_is rate block = ((λ h. h), (λ h. h))

pub word_written_read : WordWrittenRead
word_written_read = word_laws.written_read

pub word_whole : WordWhole
word_whole = word_laws.whole_back

pub word_read_written : WordReadWritten
word_read_written = word_laws.read_written

pub word_one : WordOne
unfolding info_bits
word_one zero a b e i l = exports.same_word 0 a b (omega arith) e i l
word_one (suc zero) a b e i l = exports.same_word 1 a b (omega arith) e i l
word_one (suc (suc r)) a b e i l = exports.same_word 2 a b (omega arith) (sym (exports.past_rates r a).0 ∙ e ∙ (exports.past_rates r b).0) i l

pub word_there_and_back : WordThereAndBack
word_there_and_back rate block word back w e =
    let long : length word ≡ word_bytes = (answer_laws.write_accepted rate block (length word) w).word_is in
    let r = word_written_read rate block (ap (word_write_says rate block) (sym long) ∙ w) in
    let written : word_after rate block word ≡ words.word_of rate block = ap (λ (a : Answer). after a (words.word_of rate block) word) w in
    let said : word_read_says rate (words.word_of rate block) (length back) ≡ Done = ap (word_read_says rate (words.word_of rate block)) e ∙ r.0 in
    let holds : block_after rate (word_after rate block word) back ≡ words.block_in rate (words.word_of rate block) =
    ap (λ (x : List ℕ). block_after rate x back) written
    ∙ ap (λ (a : Answer). after a (words.block_in rate (words.word_of rate block)) back) said in
    (λ i l. ap (λ (x : List ℕ). bit_at x i) holds ∙ r.1 i l, λ i l u. ap (λ (x : List ℕ). bit_at x i) holds ∙ r.2 i l u)

-- all of it
pub demand_2 : Demand2
demand_2 = record {
  stream_is = stream_is;
  block_is = block_is;
  word_is = word_is;
  symbol_is = symbol_is;
  place_is = place_is;
  line_is = line_is;
  slot_is = slot_is;
  run_bytes = run_bytes;
  run_written_read = run_written_read;
  run_read_written = run_read_written;
  run_one = run_one;
  run_there_and_back = run_there_and_back;
  word_bytes_lem = word_bytes_lem;
  same_bits_is = same_bits_is;
  spare_zero_is = spare_zero_is;
  word_written_read = word_written_read;
  word_whole = word_whole;
  word_read_written = word_read_written;
  word_one = word_one;
  word_there_and_back = word_there_and_back;
}
