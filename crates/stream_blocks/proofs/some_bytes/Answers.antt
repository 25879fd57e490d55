-- What lies together is laid by the bytes of the frame, and one byte by itself.
use native.Mathlib.Omega.{arith}
use Rattle.stream_blocks.proofs.Bytes.{together_inside, made_together}
use Rattle.stream_blocks.proofs.some_bytes.Goals as goal

pub bytes_from-requires : goal.bytes_from-requires
bytes_from-requires c =
    let s = c in
    let a = c.args in
    let t = c.together-n.ensures in
    let few = c.together-n.ensures.few in
    (together_inside a.size a.count a.frames.now a.at _ _ s.requires.0 t (omega arith), omega arith)

pub returns : goal.returns
returns c =
    let a = c.args in
    made_together a.size a.count a.frames.now a.at a.block.now _ a.i _ (omega arith) c.together-n.ensures (omega arith) c.bytes_from.ensures
