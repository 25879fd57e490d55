-- The words below j stand in their places.
use mathlib.Core.Path.{◌≡◌, ◌∙◌}
use mathlib.Core.List.{List}
use Prim.Native.Nat.{ℕ, ◌+◌, ◌-◌, ◌*◌, ◌≤◌}
use native.Mathlib.Omega.{arith}
use lib.ListN.{length}
use borrow.Rule.Slice.PartMut.{put_mid, mid_len, same_len_mid}
use Rattle.bits.specs.Pack.{piece}
use Rattle.bits.proofs.Laws.Pieces.{pieces_more}
use Rattle.sizes.specs.Sizes.{block_bytes, word_bytes}
use Rattle.word.specs.Word.{word_of}
use Rattle.pass.proofs.Laws.Return.{words_made}
use Rattle.pass_writer.proofs.code_all.Goals as goal

pub loop-j-preserved : goal.loop-j-preserved
loop-j-preserved c =
    let s = c in
    let l = c.loop-j in
    let t = c.loop-j-test.true in
    let w = c.code_block in
    let k : ℕ = l.j * word_bytes + word_bytes - l.j * word_bytes in
    let new : List ℕ = w.new.word in
    let room : l.j * word_bytes + word_bytes ≤ length l.words = omega (arith, l.invariant.0, t) in
    let long : length (put_mid (l.j * word_bytes) k l.words new) ≡ length l.words = same_len_mid {X = ℕ} (l.j * word_bytes) k l.words new w.auto.word in
    let size : length new ≡ word_bytes = w.auto.word ∙ mid_len (l.j * word_bytes) (l.j * word_bytes + word_bytes) l.words room ∙ omega arith in
    let word : ℕ → List ℕ = λ i. word_of s.args.rate (piece (block_bytes s.args.rate) s.args.blocks.now i) in (
      long ∙ l.invariant.0,
      pieces_more word_bytes l.j k word l.words new (omega (arith, room)) size long l.invariant.1 w.ensures,
    )

pub returns : goal.returns
returns c =
    let s = c in
    let l = c.loop-j in
    words_made s.args.rate s.args.n s.args.blocks.now l.words s.requires.rate_is s.requires.blocks_are l.invariant.0 (λ j h. l.invariant.1 j (omega (arith, c.loop-j-test.false)))
