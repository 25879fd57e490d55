use mathlib.Core.Path.{◌≡◌}
use Prim.Native.Nat.{◌+◌}
use Rattle.bits.specs.Pack.{val, piece}
use Rattle.sizes.specs.Sizes.{block_bytes}
use Rattle.stream_reader.specs.Frames.{joined}
use Rattle.stream_reader.specs.Inner.{bit_of}
use Rattle.stream_joined.proofs.joined.joined_eight.Given as goal

abbrev pub invariant-loop-t : goal.invariant-loop-t
invariant-loop-t l = l.v ≡ val (λ y. joined l.rate (piece (block_bytes l.rate) l.blocks) (bit_of l.rate l.at + y)) l.t
