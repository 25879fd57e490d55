use Rattle.std.proofs.Common.{◌≡◌, ◌+◌}
use Rattle.bits.specs.Pack.{val}
use Rattle.stream_writer.specs.Stream.{stream_bit}
use Rattle.stream_bits.proofs.reader.eight_bits.Given as goal

abbrev pub invariant-loop-t : goal.invariant-loop-t
invariant-loop-t l =
    (l.stream.frames.now ≡ l.frames) × (l.stream.at ≡ l.x + l._t)
    × (l.v ≡ val (λ i. stream_bit l.size l.count l.frames (l.x + i)) l._t)
