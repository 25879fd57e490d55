-- One frame more is laid at each turn.
use mathlib.Core.Path.{◌≡◌, ap, ◌∙◌}
use Prim.Native.Nat.{ℕ, ◌*◌, ◌/◌, ◌%◌}
use native.Mathlib.Omega.{arith}
use Rattle.bits.specs.Pack.{bytes_of}
use Rattle.bits.proofs.Laws.Stretch.{laid_none, laid_all}
use Rattle.uplink.specs.Uplink.{received, codeblock_count, uplink_frames_of}
use Rattle.uplink_heard.proofs.Reading.{frames_more}
use Rattle.uplink_reader.proofs.frames_out.Goals as goal

pub loop-j-init : goal.loop-j-init
loop-j-init c = laid_none _ _ _

pub overflow_mul-j : goal.overflow_mul-j
overflow_mul-j c = let most = c.requires.0.most in omega arith

pub frame_in-requires : goal.frame_in-requires
frame_in-requires c =
    let p = c.requires.0 in
    let long = c.requires.0.long in
    let most = c.requires.0.most in
    (omega arith, omega arith)

pub put_eight-requires : goal.put_eight-requires
put_eight-requires c =
    let long = c.requires.1.long in
    let same = c.loop-j.invariant.long in
    omega arith

pub loop-j-preserved : goal.loop-j-preserved
loop-j-preserved c =
    let l = c.loop-j in
    let a = c.args in
    let frame = c.frame_in in
    frames_more a.slots.now l.j a.frames.now l.frames _ frame.result frame.ensures l.invariant
    c.put_eight.ensures

pub shape_of-frames : goal.shape_of-frames
shape_of-frames c = c.loop-j.invariant.long

pub returns : goal.returns
unfolding uplink_frames_of
returns c =
    let l = c.loop-j in
    let s = c in
    let a = c.args in
    let done : l.j ≡ a.count = omega arith in
    let count : a.count ≡ codeblock_count a.slots.now = let long = c.requires.0.long in omega arith in
    let f : ℕ → ℕ = λ y. received a.slots.now (y / 64) (y % 64) in
    laid_all a.frames.now l.frames (8 * a.count) f s.requires.1.long (rw done at l.invariant) ∙ ap (λ (n : ℕ). bytes_of (8 * n) f) count
