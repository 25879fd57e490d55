-- Before each turn u bytes of the frame are laid, and `at` is the place of the bit after them.
use mathlib.Core.Path.{◌≡◌}
use Prim.Native.Nat.{ℕ, ◌+◌, ◌-◌, ◌*◌}
use native.Mathlib.Omega.{arith}
use Rattle.bits.specs.Pack.{piece}
use Rattle.bits.proofs.Laws.Positions.{at_same, at_on}
use Rattle.sizes.specs.Sizes.{marker_bits, span, block_bytes}
use Rattle.sizes.proofs.Laws.Rate.{info_le}
use Rattle.stream_reader.specs.Frames.{joined}
use Rattle.stream_joined.proofs.Rooms.{held_at, piece_le, frame_held}
use Rattle.stream_joined.proofs.Bytes.{made_more}
use Rattle.stream_frames.proofs.frame_out.Goals as goal

pub position_after-at-requires : goal.position_after-at-requires
position_after-at-requires c =
    let s = c in
    let a = c.args in
    let l = c.loop-u in
    let few = c.some_bytes-n.ensures.few in
    let e = c.info_bits-k.ensures in
    let inside = c.loop-u.invariant.2.inside in
    let k = info_le a.rate in
    let p = piece_le a.rate 1 a.blocks.now l.at (held_at (frame_held s.requires.0 a.j s.requires.1) _ 1 l.invariant.2 (omega arith)) (omega arith) in
    (omega arith, omega arith, omega arith, omega arith)

pub loop-u-preserved : goal.loop-u-preserved
loop-u-preserved c =
    let a = c.args in
    let l = c.loop-u in
    let n = c.some_bytes-n.result in
    let made = c.some_bytes-n.ensures in
    let fit = c.some_bytes-n.ensures.fit in
    let x = a.j * span a.size + marker_bits in
    let st : ℕ → ℕ = joined a.rate (piece (block_bytes a.rate) a.blocks.now) in
    let z : x + 8 * l.u + 8 * n ≡ x + 8 * (l.u + n) = omega arith in (
      omega arith,
      made_more a.rate x (a.size - l.u) (a.j * a.size) l.u n st l.at a.frames.now l.frames _ l.invariant.2 l.invariant.1 made,
      at_same z (at_on (8 * n) c.info_bits-k.ensures l.invariant.2 c.position_after-at.ensures),
    )
