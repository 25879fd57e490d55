-- Questions 9 to 12 of the whole buffer, then 13 to 15 word by word, then 16 and 18; the frames are written last.
use mathlib.Core.Path.{◌≡◌, refl, sym, ap, ◌∙◌}
use mathlib.Core.List.{List}
use Prim.Native.Nat.{ℕ, ◌<◌}
use native.Mathlib.Omega.{arith}
use Rattle.std.proofs.lemmas.Grind.{common_steps}
use Rattle.bits.specs.Pack.{piece}
use Rattle.slots.specs.Reading.{word_out, slots_say}
use Rattle.answers.specs.Answer.{Answer, Done, after, then, put_in_order}
use Rattle.answers.specs.Inner.{answer_of}
use Rattle.header_sizes.specs.Quantities.{block_count}
use Rattle.header_sizes.proofs.Laws.Bounds.{blocks_least}
use Rattle.header.specs.declared.Fields.{Fields}
use Rattle.plan.specs.declared.Plan.{Plan}
use Rattle.plan.specs.Plan.{plan_of}
use Rattle.sizes.specs.Sizes.{block_bytes, word_bytes}
use Rattle.word.specs.Word.{block_in}
use Rattle.pass.specs.Pass.{pass_word_says}
use Rattle.run.specs.Run.{words_say, run_word_says, stream_says, buffer_says}
use Rattle.run_reader.proofs.Reading as reading
use Rattle.run_reader.proofs.read_in.Goals as goal
use Rattle.run_reader.proofs.read_in.Goals.{After-read_words-heard}

-- what the words say is what a run's words say
asked : (f : Fields) (n : ℕ) (words : List ℕ) → n ≡ block_count f → put_in_order n (pass_word_says f.rate words) ≡ words_say f (piece word_bytes words)
unfolding words_say run_word_says
asked f n words e = ap (λ (k : ℕ). put_in_order k (pass_word_says f.rate words)) e

good : (c : After-read_words-heard) → Done ≡ slots_say c.plan_of.result c.args.slots.now
good c = c.in_ok-slots_say.ensures.value

taken : (c : After-read_words-heard) → (j : ℕ) → j < block_count c.args.q.fields → piece word_bytes c.slots_say.new.words j ≡ word_out c.plan_of.result c.args.slots.now j
taken c = reading.plan_taken c.args.q _ c.plan_of.ensures c.args.slots.now c.slots_say.new.words c.in_ok-slots_say.ensures.j_after

said : (c : After-read_words-heard) → answer_of c.read_words-heard.result ≡ words_say c.args.q.fields (word_out c.plan_of.result c.args.slots.now)
said c =
    c.read_words-heard.ensures.value
    ∙ asked c.args.q.fields _ c.slots_say.new.words (let e = c.block_count.ensures in omega (arith, blocks_least c.args.q.fields c.requires.entered.valid))
    ∙ reading.words_same c.args.q.fields (piece word_bytes c.slots_say.new.words) (word_out c.plan_of.result c.args.slots.now) (taken c)

pub returns-in_default-clause-value : goal.returns-in_default-clause-value
unfolding buffer_says
returns-in_default-clause-value c =
    let a = (goal.at.returns-in_default-clause-value c).After-read_words-heard in
    let p = c.plan_of.ensures in
    let g = ap (λ (x : Plan). slots_say x c.args.slots.now) (sym p) ∙ sym (good a) in
    let w = said a ∙ ap (λ (x : Plan). words_say c.args.q.fields (word_out x c.args.slots.now)) p in
    let stands : then (answer_of c.read_words-heard.result) (stream_says c.args.q.fields (word_out (plan_of c.args.q) c.args.slots.now)) ≡ answer_of c.read_words-heard.result = rw c.in_default.is refl in
    grind (arith, common_steps) ∙ sym stands ∙ ap (λ (x : Answer). then x (stream_says c.args.q.fields (word_out (plan_of c.args.q) c.args.slots.now))) w ∙ sym (rw g refl)

are : (c : After-read_words-heard) → answer_of c.read_words-heard.result ≡ Done → (i : ℕ) → i < block_count c.args.q.fields
    → piece (block_bytes c.args.q.fields.rate) c.read_words-heard.new.blocks i ≡ block_in c.args.q.fields.rate (word_out c.plan_of.result c.args.slots.now i)
are c done i l = c.read_words-heard.ensures.j_after done i (let e = c.block_count.ensures in omega (arith, blocks_least c.args.q.fields c.requires.entered.valid)) ∙ ap (block_in c.args.q.fields.rate) (taken c i l)

pub returns-clause-value : goal.returns-clause-value
returns-clause-value c =
    let a = (goal.at.returns-clause-value c).After-read_words-heard in
    let done : answer_of c.read_words-heard.result ≡ Done = rw c.in-Ok.is refl in
    reading.buffer_frames c.args.q _ c.plan_of.ensures c.args.slots.now (sym (good a)) c.requires.entered.valid (sym (said a) ∙ done) _ (are a done) _ c.finish.ensures.value

pub returns-clause-frames_after : goal.returns-clause-frames_after
returns-clause-frames_after c =
    let a = (goal.at.returns-clause-frames_after c).After-read_words-heard in
    let done : answer_of c.read_words-heard.result ≡ Done = rw c.in-Ok.is refl in
    c.finish.ensures.frames_after
    ∙ ap (λ (x : List ℕ). after (answer_of c.finish.result) x c.args.frames.now) (reading.frames_out c.args.q _ c.plan_of.ensures c.args.slots.now (sym (good a)) c.requires.entered.valid (sym (said a) ∙ done) _ (are a done))
