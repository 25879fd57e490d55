use mathlib.Core.Path.{◌≡◌}
use Prim.Native.Nat.{◌+◌, ◌*◌}
use Rattle.bits.specs.Pack.{val, piece}
use Rattle.sizes.specs.Sizes.{block_bytes}
use Rattle.stream_reader.specs.Frames.{joined}
use Rattle.stream_joined.proofs.looks.marker_at.Given as goal

abbrev pub invariant-loop-i : goal.invariant-loop-i
invariant-loop-i l = l.v ≡ val (λ t. joined l.rate (piece (block_bytes l.rate) l.blocks) (l.x + t)) (8 * l.i)
