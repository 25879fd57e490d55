-- The bit lies where its place says.
use mathlib.Core.Path.{sym, ap, ◌∙◌}
use native.Mathlib.Omega.{arith}
use Rattle.bits.specs.Pack.{bit_at}
use Rattle.stream_joined.proofs.Bytes.{joined_in}
use Rattle.stream_joined.proofs.Rooms.{bit_in}
use Rattle.stream_joined.proofs.joined.joined_bit.Goals as goal

pub bit_at-requires : goal.bit_at-requires
bit_at-requires c =
    let s = c in
    let a = c.args in
    let w = bit_in a.rate 1 a.blocks.now a.at s.requires (omega arith) in
    rw c.packed_bit.ensures w

pub returns : goal.returns
returns c =
    let s = c in
    let a = c.args in
    c.bit_at.ensures ∙ ap (bit_at a.blocks.now) c.packed_bit.ensures
    ∙ sym (joined_in a.rate a.blocks.now a.at.piece a.at.bit s.requires.held.lie.rate3 s.requires.inside)
