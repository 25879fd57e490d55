use Prim.Native.Nat.{◌*◌, ◌/◌, ◌%◌}
use Rattle.bits.specs.Inner.{Laid}
use Rattle.uplink.specs.Uplink.{received}
use Rattle.uplink_reader.proofs.frames_out.Given as goal

abbrev pub invariant-loop-j : goal.invariant-loop-j
invariant-loop-j l = Laid l.initial.frames 0 (8 * l.j) (λ y. received l.slots (y / 64) (y % 64)) l.frames
