use mathlib.Core.Path.{◌≡◌}
use Prim.Native.Nat.{ℕ, ◌≤◌, ◌<◌}
use lib.ListN.{length, get_or}
use Rattle.bits.specs.Pack.{bit_at}
use Rattle.pulses.specs.Pulses.{slot_bit}
use Rattle.capture_marker.proofs.put_marker.Given as goal

abbrev pub invariant-loop-w : goal.invariant-loop-w
invariant-loop-w l =
    (l.w ≤ l.markers) × (length l.slots ≡ length l.initial.slots) × ((x : ℕ) → x < 10304 → bit_at l.slots x ≡ slot_bit l.p.group l.w (λ w. get_or l.p.marks w 0) x)
