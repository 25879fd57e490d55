use Rattle.bits.specs.Pack.{bit_of}
use Rattle.bits.specs.Inner.{Laid}
use Rattle.uplink.specs.Uplink.{slot_of}
use Rattle.uplink_writer.proofs.put_slots.Given as goal

abbrev pub invariant-loop-q : goal.invariant-loop-q
invariant-loop-q l = Laid l.initial.slots l.at l.q (slot_of (bit_of l.v)) l.slots
