use Prim.Native.Nat.{◌+◌, ◌-◌, ◌*◌, ◌≤◌}
use Rattle.bits.specs.Pack.{piece}
use Rattle.bits.specs.Inner.{At, Laid}
use Rattle.sizes.specs.Sizes.{marker_bits, span, info_bits, block_bytes}
use Rattle.stream_reader.specs.Frames.{joined}
use Rattle.stream_frames.proofs.frame_out.Given as goal

abbrev pub invariant-loop-u : goal.invariant-loop-u
invariant-loop-u l =
    (l.u ≤ l.size) × Laid l.initial.frames l.start l.u (λ t. joined l.rate (piece (block_bytes l.rate) l.blocks) (l.j * span l.size + marker_bits + t)) l.frames × At (info_bits l.rate) (l.j * span l.size + marker_bits + 8 * l.u) l.at

abbrev pub decreases-loop-u : goal.decreases-loop-u
decreases-loop-u l = l.size - l.u
