-- The reader's answers on slots of the right length, case by case, as the code comes to them.
use mathlib.Core.Path.{◌≡◌, refl, sym, ap, ◌∙◌}
use mathlib.Core.Bool.{Bool}
use mathlib.Core.List.{List}
use mathlib.Core.Logic.{⊎_elim}
use Prim.Native.Nat.{ℕ, ◌-◌, ◌*◌, ◌≤◌, ◌<◌}
use native.Mathlib.Omega.{arith}
use lib.Dec.{eqb}
use lib.ListN.{length, get_or}
use borrow.Author.Tests.{eq-eqb}
use Rattle.bits.proofs.Laws.Choice.{lt_or_le}
use Rattle.bits.specs.Basics.{up_to}
use Rattle.bits.proofs.Laws.First.{first_same, up_to_le}
use Rattle.bits.specs.Pack.{piece}
use Rattle.answers.specs.Answer.{Answer, Done, ask, is_done, number_of, put_in_order, first_refused}
use Rattle.sizes.specs.Sizes.{info_bits, block_bytes, word_bytes}
use Rattle.sizes.proofs.Laws.Rate.{by_rate}
use Rattle.word.specs.Word.{block_in, word_read_says}
use Rattle.header_sizes.specs.Quantities.{block_count}
use Rattle.header_sizes.specs.Inner.{Valid}
use Rattle.header_sizes.proofs.Laws.Bounds.{blocks_most, blocks_needed, marked_most}
use Rattle.header.specs.declared.Fields.{Fields}
use Rattle.parameters.specs.declared.Parameters.{Parameters}
use Rattle.plan.specs.declared.Plan.{Plan}
use Rattle.plan.specs.Plan.{plan_of}
use Rattle.plan.specs.Inner.{Entered}
use Rattle.plan.proofs.Laws.Accepted.{plan_words}
use Rattle.stream_reader.specs.Frames.{joined, frames_in, frames_say}
use Rattle.stream_reader.proofs.Laws.Blocks.{joined_same}
use Rattle.stream_reader.specs.Inner.{Judged}
use Rattle.stream_reader.proofs.Laws.Same.{say_same, in_same}
use Rattle.slots.specs.Reading.{word_out, slots_say}
use Rattle.slots.specs.Inner.{RunSlots}
use Rattle.slots_places.specs.Inner.{Cleared}
use Rattle.run.specs.Run.{stream_in, frames_of, run_word_says, words_say, stream_says, buffer_says}
use Rattle.run.proofs.Laws.Return.{fit}

-- the bytes of as many packed blocks as any rate can have
few_blocks : (rate : ℕ) → rate < 3 → (c : ℕ) → (c - 1) * info_bits rate < 1050624 → c * block_bytes rate ≤ 131880
unfolding info_bits block_bytes
few_blocks = by_rate (λ (r : ℕ). (c : ℕ) → (c - 1) * info_bits r < 1050624 → c * block_bytes r ≤ 131880) (λ c h. omega arith) (λ c h. omega arith) (λ c h. omega arith)

pub most_blocks : (f : Fields) → Valid f → block_count f * block_bytes f.rate ≤ 131880
most_blocks f v = few_blocks f.rate v.rate (block_count f) (omega (arith, blocks_needed f v, marked_most f v))

-- what questions 16 and 18 are put to
pub frames_judged : (f : Fields) → Valid f → (pieces : ℕ) (blocks : List ℕ) → pieces ≡ block_count f → block_count f * block_bytes f.rate ≤ length blocks → Judged f.rate pieces f.size f.frames blocks
frames_judged f v pieces blocks e l =
    rw e (record {
      rate3 = v.rate;
      pieces2 = blocks_most f v;
      room = l;
      size1 = v.size_least;
      size2 = v.size_most;
      count1 = v.frames_least;
      count2 = v.frames_most;
      fit = fit f v;
    })

-- the same words give the same answer
order_same : (n : ℕ) (say tell : ℕ → Answer) → ((j : ℕ) → j < n → say j ≡ tell j) → put_in_order n say ≡ put_in_order n tell
unfolding put_in_order first_refused
order_same n say tell h =
    let k : ℕ = up_to (λ j. is_done (say j)) 0 n in
    let e : k ≡ up_to (λ j. is_done (tell j)) 0 n = first_same (λ j. is_done (say j)) (λ j. is_done (tell j)) n (λ j l. ap is_done (h j l)) in
    let most = up_to_le (λ j. is_done (say j)) n in
    ⊎_elim
    (λ (l : k < n).
    ap (λ (a : Answer). ask (eqb k n) (number_of a) k) (h k l) ∙ ap (λ (i : ℕ). ask (eqb i n) (number_of (tell i)) i) e)
    (λ (l : n ≤ k).
    let q : k ≡ n = omega arith in
    ap (λ (t : Bool). ask t (number_of (say k)) k) (eq-eqb k n q)
    ∙ sym (ap (λ (t : Bool). ask t (number_of (tell (up_to (λ j. is_done (tell j)) 0 n))) (up_to (λ j. is_done (tell j)) 0 n)) (eq-eqb (up_to (λ j. is_done (tell j)) 0 n) n (sym e ∙ q))))
    (lt_or_le k n)

pub words_same : (f : Fields) (word other : ℕ → List ℕ) → ((j : ℕ) → j < block_count f → word j ≡ other j) → words_say f word ≡ words_say f other
unfolding words_say run_word_says
words_same f word other h =
    order_same (block_count f) (run_word_says f word) (run_word_says f other) (λ j l. ap (λ (x : List ℕ). word_read_says f.rate x (block_bytes f.rate)) (h j l))

-- a plan that is the header's
module _ (q : Parameters) (p : Plan) (ep : p ≡ plan_of q) (slots : List ℕ) where
  pub plan_slots : {n : ℕ} → Entered q n (length slots) → RunSlots p slots
  plan_slots r = rw ep (record { fine = r.fine; long = r.slots_are })

  plan_count : p.layout.words ≡ block_count q.fields
  plan_count = ap (λ (x : Plan). x.layout.words) ep ∙ plan_words q

  pub plan_cleared : (words : List ℕ) → block_count q.fields * word_bytes < length words → ((k : ℕ) → get_or words k 0 ≡ 0) → Cleared p words
  plan_cleared words fits empty = record { room = let e = plan_count in omega arith; empty = empty }

  -- the words that were taken out
  pub plan_taken : (words : List ℕ) → ((j : ℕ) → j < p.layout.words → piece word_bytes words j ≡ word_out p slots j) → (j : ℕ) → j < block_count q.fields → piece word_bytes words j ≡ word_out p slots j
  plan_taken words h j l = h j (let e = plan_count in omega arith)

  module _ (good : slots_say p slots ≡ Done) where
    good_plan : slots_say (plan_of q) slots ≡ Done
    good_plan = ap (λ (x : Plan). slots_say x slots) (sym ep) ∙ good

    -- the blocks that were read
    module _ (v : Valid q.fields) (said : words_say q.fields (word_out p slots) ≡ Done) (blocks : List ℕ)
        (are : (j : ℕ) → j < block_count q.fields → piece (block_bytes q.fields.rate) blocks j ≡ block_in q.fields.rate (word_out p slots j)) where
      agree : (x : ℕ) → x < block_count q.fields * info_bits q.fields.rate → joined q.fields.rate (piece (block_bytes q.fields.rate) blocks) x ≡ stream_in q.fields (word_out (plan_of q) slots) x
      unfolding stream_in
      agree x l =
          joined_same q.fields.rate (block_count q.fields) (piece (block_bytes q.fields.rate) blocks) (λ j. block_in q.fields.rate (word_out p slots j)) are x l
          ∙ ap (λ (y : Plan). joined q.fields.rate (λ j. block_in q.fields.rate (word_out y slots j)) x) ep

      -- by 16 and 18, or accepted
      pub buffer_frames : (r : Answer)
          → r ≡ frames_say q.fields.size q.fields.frames (block_count q.fields * info_bits q.fields.rate) (joined q.fields.rate (piece (block_bytes q.fields.rate) blocks))
          → r ≡ buffer_says q.fields (plan_of q) slots
      unfolding buffer_says stream_says
      buffer_frames r e =
          let words : words_say q.fields (word_out (plan_of q) slots) ≡ Done = ap (λ (x : Plan). words_say q.fields (word_out x slots)) (sym ep) ∙ said in
          e ∙ say_same q.fields.size q.fields.frames (block_count q.fields * info_bits q.fields.rate) v.size_least (fit q.fields v) _ _ agree
          ∙ sym (rw (good_plan, words) refl)

      pub frames_out : frames_in q.fields.size q.fields.frames (joined q.fields.rate (piece (block_bytes q.fields.rate) blocks)) ≡ frames_of q.fields (word_out (plan_of q) slots)
      unfolding frames_of
      frames_out = in_same q.fields.size q.fields.frames (block_count q.fields * info_bits q.fields.rate) v.size_least (fit q.fields v) _ _ agree
