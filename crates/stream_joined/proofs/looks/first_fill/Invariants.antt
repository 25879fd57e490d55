use mathlib.Core.Path.{◌≡◌}
use Prim.Native.Nat.{◌-◌, ◌*◌, ◌≤◌}
use Rattle.bits.specs.Basics.{up_to}
use Rattle.bits.specs.Pack.{piece}
use Rattle.bits.specs.Inner.{At}
use Rattle.sizes.specs.Sizes.{info_bits, block_bytes}
use Rattle.stream_reader.specs.Frames.{joined, zero_at}
use Rattle.stream_joined.proofs.looks.first_fill.Given as goal

abbrev pub invariant-loop-x : goal.invariant-loop-x
invariant-loop-x l =
    (l.x ≤ l.pieces * info_bits l.rate) × (up_to (zero_at (joined l.rate (piece (block_bytes l.rate) l.blocks))) l.x (l.pieces * info_bits l.rate) ≡ up_to (zero_at (joined l.rate (piece (block_bytes l.rate) l.blocks))) l.from (l.pieces * info_bits l.rate)) × At (info_bits l.rate) l.x l.at

abbrev pub decreases-loop-x : goal.decreases-loop-x
decreases-loop-x l = l.pieces * info_bits l.rate - l.x
