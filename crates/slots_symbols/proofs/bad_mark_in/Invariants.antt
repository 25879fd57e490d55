use mathlib.Core.Path.{◌≡◌}
use Prim.Native.Nat.{◌+◌}
use Rattle.bits.specs.Basics.{up_to}
use Rattle.slots.specs.Reading.{pooled_in}
use Rattle.channel.specs.Channel.{mark_right}
use Rattle.slots_symbols.proofs.bad_mark_in.Given as goal

abbrev pub invariant-loop-w : goal.invariant-loop-w
invariant-loop-w l = up_to (mark_right l.p.layout l.p.marks (pooled_in l.p l.b)) (l.first + l.w) (l.first + l.markers) ≡ up_to (mark_right l.p.layout l.p.marks (pooled_in l.p l.b)) l.first (l.first + l.markers)
