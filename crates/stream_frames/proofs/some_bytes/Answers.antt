-- What lies together in a block is laid by the block's bytes, and one byte by itself.
use Prim.Native.Nat.{◌*◌}
use native.Mathlib.Omega.{arith}
use Rattle.stream_joined.proofs.Rooms.{stretch_in}
use Rattle.stream_joined.proofs.Bytes.{made_one, made_together}
use Rattle.stream_frames.proofs.some_bytes.Goals as goal

pub returns-then-n-eq0 : goal.returns-then-n-eq0
returns-then-n-eq0 c =
    let s = c in
    let a = c.args in
    made_one a.rate a.blocks.now a.at s.requires.0.held.lie.rate3 a.most a.frames.now a.i c.joined_byte.result s.requires.1 (omega arith) c.joined_byte.ensures

pub bytes_from-requires : goal.bytes_from-requires
bytes_from-requires c =
    let s = c in
    let a = c.args in
    let w = c.whole_bytes-n.ensures in
    let l = stretch_in a.rate (8 * a.most) a.blocks.now a.at s.requires.0 (omega arith) c.whole_bytes-n.result w.1 in
    rw c.packed_bit.ensures (l, omega arith)

pub returns : goal.returns
returns c =
    let s = c in
    let a = c.args in
    let w = c.whole_bytes-n.ensures in
    let n = c.whole_bytes-n.result in
    let laid = rw c.packed_bit.ensures at c.bytes_from.ensures in
    made_together a.rate a.blocks.now a.at s.requires.0.held.lie.rate3 a.most a.frames.now _ a.i n (omega arith) w.0 w.1 laid
