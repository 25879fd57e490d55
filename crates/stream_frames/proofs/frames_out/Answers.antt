-- Before each turn the frames so far are laid.
use mathlib.Core.Path.{◌≡◌}
use Prim.Native.Nat.{ℕ, ◌*◌}
use native.Mathlib.Omega.{arith}
use Rattle.bits.specs.Pack.{piece}
use Rattle.bits.proofs.Laws.Stretch.{laid_all}
use Rattle.sizes.specs.Sizes.{block_bytes}
use Rattle.stream_reader.specs.Frames.{joined, frames_in}
use Rattle.stream_joined.proofs.Bytes.{frames_more}
use Rattle.stream_frames.proofs.frames_out.Goals as goal

pub loop-j-preserved : goal.loop-j-preserved
loop-j-preserved c =
    let a = c.args in
    let l = c.loop-j in
    let st : ℕ → ℕ = joined a.rate (piece (block_bytes a.rate) a.blocks.now) in
    frames_more a.size l.j st a.frames.now l.frames _ l.invariant c.frame_out.ensures

pub returns : goal.returns
unfolding frames_in
returns c =
    let s = c in
    let a = c.args in
    let l = c.loop-j in
    let e : l.j ≡ a.count = omega arith in
    laid_all a.frames.now l.frames (a.count * a.size) _ s.requires.frames_len (rw e at l.invariant)
