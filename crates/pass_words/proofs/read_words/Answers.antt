-- The blocks of the words below j stand in their places, and each of those words gives one.
use mathlib.Core.Path.{◌≡◌, refl, sym, ap, ◌∙◌}
use mathlib.Core.Bool.{false}
use mathlib.Core.List.{List}
use Prim.Native.Nat.{ℕ, ◌+◌, ◌-◌, ◌*◌, ◌≤◌}
use native.Mathlib.Omega.{arith}
use lib.ListN.{length, take, drop}
use borrow.Rule.Slice.PartMut.{put_mid, mid_len, same_len_mid}
use Rattle.std.proofs.lemmas.Grind.{common_steps}
use Rattle.bits.proofs.Laws.First.{first_on}
use Rattle.bits.specs.Pack.{piece}
use Rattle.bits.proofs.Laws.Pieces.{pieces_more}
use Rattle.answers.specs.Answer.{Answer, Done, No, after, is_done, number_of}
use Rattle.answers.specs.Inner.{answer_of}
use Rattle.answers.proofs.Laws.Answer.{order_no, order_yes}
use Rattle.sizes.specs.Sizes.{word_bytes}
use Rattle.word.specs.Word.{block_in}
use Rattle.pass.specs.Pass.{pass_word_says}
use Rattle.pass.proofs.Laws.Row.{inside}
use Rattle.pass_words.proofs.read_words.Invariants.{gives}
use Rattle.pass_words.proofs.read_words.Goals as goal

pub returns-in_err-map_err-clause-value : goal.returns-in_err-map_err-clause-value
returns-in_err-map_err-clause-value c =
    let bad : is_done (answer_of c.read_word-answer.result) ≡ false = grind (arith, common_steps) in
    let moved : answer_of c.from_residual.result ≡ No (number_of (answer_of c.read_word-answer.result)) c.loop-j.j-counter = grind (arith, common_steps) in
    moved ∙ order_no c.args.n c.args.n c.loop-j.j-counter (pass_word_says c.args.rate c.args.words.now) _ refl c.loop-j-test.true c.loop-j.invariant.2 c.read_word-answer.ensures.value bad

pub loop-j-preserved : goal.loop-j-preserved
loop-j-preserved c =
    let s = c in
    let l = c.loop-j in
    let size : ℕ = c.block_bytes-size.result in
    let at : ℕ = l.j-counter * size in
    let r = c.read_word-answer in
    let k : ℕ = at + size - at in
    let new : List ℕ = r.new.block in
    let all : c.args.n * size ≤ length l.blocks = rw (c.block_bytes-size.ensures, l.invariant.0) c.requires.blocks_fit in
    let room : at + size ≤ length l.blocks = omega (arith, inside c.args.n size l.j-counter c.loop-j-test.true) in
    let long : length (put_mid at k l.blocks new) ≡ length l.blocks = same_len_mid {X = ℕ} at k l.blocks new r.auto.block in
    let fits : length new ≡ size = r.auto.block ∙ mid_len at (at + size) l.blocks room ∙ omega arith in
    let done : answer_of r.result ≡ Done = grind (arith, common_steps) in
    let block : ℕ → List ℕ = λ i. block_in s.args.rate (piece word_bytes s.args.words.now i) in
    let here : new ≡ block l.j-counter = r.ensures.block_after ∙ ap (λ (a : Answer). after a (block l.j-counter) (take k (drop at l.blocks))) done in (
      long ∙ l.invariant.0,
      pieces_more size l.j-counter k block l.blocks new (omega arith) fits long l.invariant.1 here,
      first_on (gives s.args.rate s.args.words.now) s.args.n l.j-counter c.loop-j-test.true (ap is_done (sym r.ensures.value ∙ done)) ∙ l.invariant.2,
    )

pub returns-clause-value : goal.returns-clause-value
returns-clause-value c =
    let l = c.loop-j in
    order_yes c.args.n c.args.n l.j-counter (pass_word_says c.args.rate c.args.words.now) refl (omega arith) (omega arith) l.invariant.2
