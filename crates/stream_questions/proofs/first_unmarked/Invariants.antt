use mathlib.Core.Path.{◌≡◌}
use Rattle.bits.specs.Basics.{up_to}
use Rattle.bits.specs.Pack.{piece}
use Rattle.sizes.specs.Sizes.{block_bytes}
use Rattle.stream_reader.specs.Frames.{joined, frame_marked}
use Rattle.stream_questions.proofs.first_unmarked.Given as goal

abbrev pub invariant-loop-j : goal.invariant-loop-j
invariant-loop-j l =
    (up_to (frame_marked l.size (joined l.rate (piece (block_bytes l.rate) l.blocks))) l.j l.count ≡ up_to (frame_marked l.size (joined l.rate (piece (block_bytes l.rate) l.blocks))) 0 l.count)
