use Prim.Native.Nat.{◌+◌, ◌-◌, ◌*◌, ◌≤◌}
use lib.ListN.{length}
use Rattle.bits.specs.Inner.{Laid, At}
use Rattle.stream_writer.specs.Stream.{stream_bit}
use Rattle.stream_blocks.proofs.fill_bytes.Given as goal

abbrev pub invariant-loop-i : goal.invariant-loop-i
invariant-loop-i l = (l.i ≤ length l.initial.block) × Laid l.initial.block 0 l.i (λ t. stream_bit l.size l.count l.frames (l.x + t)) l.block × At l.span (l.x + 8 * l.i) l.at

abbrev pub decreases-loop-i : goal.decreases-loop-i
decreases-loop-i l = length l.initial.block - l.i
