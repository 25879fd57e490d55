use mathlib.Core.Path.{◌≡◌}
use Prim.Native.Nat.{◌*◌}
use Rattle.bits.specs.Pack.{val}
use Rattle.uplink_heard.proofs.Reading.{heard_from}
use Rattle.uplink_heard.proofs.heard.Given as goal

abbrev pub invariant-loop-byte : goal.invariant-loop-byte
invariant-loop-byte l = l.v ≡ val (heard_from l.slots l.at) (2 * l.byte-index)
