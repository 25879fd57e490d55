-- The word of a block of the stream, and the slots of all words, as the writer's code comes by them.
use mathlib.Core.Path.{◌≡◌, ap, ◌∙◌}
use mathlib.Core.List.{List}
use Prim.Native.Nat.{ℕ, ◌*◌, ◌≤◌, ◌<◌}
use native.Mathlib.Omega.{arith}
use lib.ListN.{length}
use Rattle.answers.specs.Answer.{Done}
use Rattle.word.proofs.Laws.Word.{Packed}
use Rattle.word.specs.Word.{word_write_says}
use Rattle.word.proofs.Laws.Exports.{packed_written}
use Rattle.header_sizes.specs.Quantities.{block_count, frame_bytes}
use Rattle.header_sizes.specs.Inner.{Valid}
use Rattle.header.specs.declared.Fields.{Fields}
use Rattle.parameters.specs.declared.Parameters.{Parameters}
use Rattle.plan.specs.declared.Plan.{Plan}
use Rattle.plan.specs.Plan.{plan_of}
use Rattle.plan.specs.Inner.{Fine, slot_bytes}
use Rattle.plan.proofs.Laws.Accepted.{plan_words}
use Rattle.stream_writer.specs.Stream.{stream_bit, block_at}
use Rattle.stream_writer.proofs.Laws.Stream.{stream_bits, block_packed}
use Rattle.stream_writer.specs.Inner.{Frames}
use Rattle.slots.specs.Writing.{run_slots}
use Rattle.slots.specs.Inner.{Lent}
use Rattle.slots.proofs.Laws.Slots.{slots_same}
use Rattle.run.specs.Run.{word_at}
use Rattle.bits.specs.Pack.{piece}
use Rattle.sizes.specs.Sizes.{word_bytes}

-- a block of the stream is always written
pub written : (f : Fields) → Valid f → (frames : List ℕ) (j n : ℕ) (block : List ℕ) → block ≡ block_at f.rate (stream_bit f.size f.frames frames) j → n ≡ word_bytes → word_write_says f.rate block n ≡ Done
written f v frames j n block eb en =
    let b : List ℕ = block_at f.rate (stream_bit f.size f.frames frames) j in
    let p = block_packed f.rate (stream_bit f.size f.frames frames) v.rate (stream_bits f.size f.frames frames) j in
    let packed : Packed f.rate b = record { size = p.0; bytes = p.1; spare = p.2 } in
    ap (λ (x : List ℕ). word_write_says f.rate x n) eb ∙ ap (word_write_says f.rate b) en ∙ packed_written f.rate b v.rate packed

-- the frames of a run, as step 1 asks for them
pub frames_lent : (f : Fields) → Valid f → (frames : List ℕ) → length frames ≡ frame_bytes f → Frames f.size f.frames frames
unfolding frame_bytes
frames_lent f v frames e =
    record { size1 = v.size_least; size2 = v.size_most; count1 = v.frames_least; count2 = v.frames_most; long = e }

-- the plan, as steps 8 to 10 ask for it
pub plan_lent : (q : Parameters) (p : Plan) (words slots : List ℕ) → p ≡ plan_of q → Fine (plan_of q) → block_count q.fields * word_bytes ≤ length words → length slots ≡ slot_bytes (plan_of q) → Lent p words slots
plan_lent q p words slots e fine lw ls =
    let enough : (plan_of q).layout.words * word_bytes ≤ length words = omega (arith, plan_words q) in
    rw e (record { given = record { fine = fine; long = enough }; room = ls })

-- the slots of words that stand back to back
pub slots_coded : (q : Parameters) (p : Plan) (words frames slots : List ℕ) → p ≡ plan_of q → ((j : ℕ) → j < block_count q.fields → piece word_bytes words j ≡ word_at q.fields frames j)
    → slots ≡ run_slots p (piece word_bytes words) → slots ≡ run_slots (plan_of q) (word_at q.fields frames)
slots_coded q p words frames slots e h s =
    s ∙ ap (λ (x : Plan). run_slots x (piece word_bytes words)) e
    ∙ slots_same (plan_of q) (piece word_bytes words) (word_at q.fields frames) (λ j l. h j (omega (arith, plan_words q)))
