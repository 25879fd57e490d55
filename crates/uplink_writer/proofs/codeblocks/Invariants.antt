use Prim.Native.Nat.{◌*◌}
use Rattle.bits.specs.Inner.{Laid}
use Rattle.uplink.specs.Uplink.{sent_bit, slot_of}
use Rattle.uplink_writer.proofs.codeblocks.Given as goal

abbrev pub invariant-loop-i : goal.invariant-loop-i
invariant-loop-i l = Laid l.initial.slots 0 (64 * l.i) (slot_of (sent_bit l.frames)) l.slots
