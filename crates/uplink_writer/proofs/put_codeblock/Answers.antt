-- The frame's half and the parity's, each with its part of the sequence.
use Prim.Native.Nat.{◌*◌}
use Rattle.uplink_writer.proofs.Writing.{frame_eight, halves_laid}
use Rattle.uplink_writer.proofs.put_codeblock.Goals as goal

pub returns : goal.returns
returns c =
    let a = c.args in
    let frame = c.eight-frame in
    let parity = c.parity in
    halves_laid a.frames.now a.i frame.result (frame_eight a.frames.now a.i frame.result frame.ensures) a.slots.now _ _
    (64 * a.i) parity.result parity.ensures
    c.put_slots.ensures c.put_slots-2.ensures
