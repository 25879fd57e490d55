use Prim.Native.Nat.{◌*◌}
use Rattle.slots.specs.Reading.{pooled_in}
use Rattle.bits.proofs.Laws.First.{Sought}
use Rattle.channel.specs.Channel.{mark_right}
use Rattle.slots_symbols.proofs.first_bad_mark.Given as goal

abbrev pub invariant-loop-line : goal.invariant-loop-line
invariant-loop-line l = Sought (mark_right l.p.layout l.p.marks (pooled_in l.p l.b)) l.unit (l.lines * l.unit) l.lines l.line
