-- The words below j stand in their places.
use mathlib.Core.Path.{◌≡◌, ◌∙◌}
use mathlib.Core.List.{List}
use Prim.Native.Nat.{ℕ, ◌+◌, ◌-◌, ◌*◌, ◌≤◌}
use native.Mathlib.Omega.{arith}
use lib.ListN.{length}
use borrow.Rule.Slice.PartMut.{put_mid, mid_len, same_len_mid}
use Rattle.run.specs.Run.{word_at}
use Rattle.bits.proofs.Laws.Pieces.{pieces_more}
use Rattle.sizes.specs.Sizes.{word_bytes}
use Rattle.run_writer.proofs.code_words.Goals as goal

pub loop-j-preserved : goal.loop-j-preserved
loop-j-preserved c =
    let s = c in
    let l = c.loop-j in
    let t = c.loop-j-test.true in
    let n = c.block_count-j-end in
    let w = c.code_word in
    let k : ℕ = l.j * word_bytes + word_bytes - l.j * word_bytes in
    let new : List ℕ = w.new.word in
    let inside : l.j * word_bytes + word_bytes ≤ length l.words = omega (arith, s.requires.words_fit, n.ensures, l.invariant.1, t) in
    let long : length (put_mid (l.j * word_bytes) k l.words new) ≡ length l.words = same_len_mid {X = ℕ} (l.j * word_bytes) k l.words new w.auto.word in
    let size : length new ≡ word_bytes = w.auto.word ∙ mid_len (l.j * word_bytes) (l.j * word_bytes + word_bytes) l.words inside ∙ omega arith in (
      w.auto.space ∙ l.invariant.0,
      long ∙ l.invariant.1,
      pieces_more word_bytes l.j k (word_at s.args.f s.args.frames.now) l.words new (omega (arith, inside)) size long l.invariant.2 w.ensures,
    )
