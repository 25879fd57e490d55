use mathlib.Core.Path.{◌≡◌}
use Rattle.bits.specs.Basics.{up_to}
use Rattle.uplink.specs.Uplink.{is_bit}
use Rattle.uplink_reader.proofs.first_bad_group.Given as goal

abbrev pub invariant-loop-g : goal.invariant-loop-g
invariant-loop-g l = up_to (is_bit l.slots) l.g l.end ≡ up_to (is_bit l.slots) 0 l.end
