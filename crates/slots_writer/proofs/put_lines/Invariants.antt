use Prim.Native.Nat.{◌*◌}
use Rattle.slots_moves.specs.Inner.{Holds, front}
use Rattle.slots_lines.specs.Inner.{line_end}
use Rattle.bits.specs.Pack.{piece}
use Rattle.sizes.specs.Sizes.{word_bytes}
use Rattle.channel.specs.Channel.{unit}
use Rattle.slots_writer.proofs.put_lines.Given as goal

abbrev pub invariant-loop-line : goal.invariant-loop-line
invariant-loop-line l = Holds l.p (front l.p (piece word_bytes l.words) (l.line * unit l.p.layout)) (line_end l.p l.line) l.slots
