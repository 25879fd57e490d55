use Prim.Native.Nat.{◌*◌}
use Rattle.bits.specs.Pack.{piece}
use Rattle.bits.specs.Inner.{Laid}
use Rattle.sizes.specs.Sizes.{block_bytes}
use Rattle.stream_reader.specs.Frames.{joined, frame_place}
use Rattle.stream_frames.proofs.frames_out.Given as goal

abbrev pub invariant-loop-j : goal.invariant-loop-j
invariant-loop-j l =
    Laid l.initial.frames 0 (l.j * l.size) (λ y. joined l.rate (piece (block_bytes l.rate) l.blocks) (frame_place l.size y)) l.frames
