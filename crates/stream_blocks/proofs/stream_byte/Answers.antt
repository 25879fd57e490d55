-- By where the place lies: after the last frame, in the marker, or where the reader goes.
use mathlib.Core.Path.{ap, ◌∙◌}
use Prim.Native.Nat.{ℕ, ◌+◌, ◌*◌}
use native.Mathlib.Omega.{arith}
use lib.Bits.{bit_and}
use Rattle.bits.specs.Pack.{val}
use Rattle.bits.proofs.Laws.Loops.{byte_mask}
use Rattle.sizes.specs.Sizes.{span}
use Rattle.stream_writer.specs.Stream.{stream_bit}
use Rattle.stream_writer.proofs.Laws.Stream.{stream_bits}
use Rattle.stream_blocks.proofs.Bytes.{stream_from, zeros_byte, marker_byte}
use Rattle.stream_blocks.proofs.stream_byte.Goals as goal

pub returns-then-frame-count : goal.returns-then-frame-count
returns-then-frame-count c =
    let a = c.args in
    zeros_byte a.size a.count a.frames.now a.at.piece a.at.bit (omega arith)

pub returns-then-bit-le-MARKER_BITS : goal.returns-then-bit-le-MARKER_BITS
returns-then-bit-le-MARKER_BITS c =
    let a = c.args in
    c.marker_byte.ensures ∙ marker_byte a.size a.count a.frames.now a.at.piece a.at.bit (omega arith) (omega arith)

pub returns : goal.returns
returns c =
    let a = c.args in
    let p = c.args.at in
    ap (λ (v : ℕ). bit_and v 255)
    (c.eight_bits.ensures ∙ ap (λ (k : ℕ). val (λ t. stream_bit a.size a.count a.frames.now (p.piece * k + p.bit + t)) 8) c.span.ensures)
    ∙ byte_mask (stream_from a.size a.count a.frames.now p.piece p.bit) (λ t. stream_bits a.size a.count a.frames.now (p.piece * span a.size + p.bit + t))
