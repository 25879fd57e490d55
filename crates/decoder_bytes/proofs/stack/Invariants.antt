use mathlib.Core.Path.{◌≡◌}
use Prim.Native.Nat.{◌*◌, ◌≤◌}
use lib.ListN.{length}
use Rattle.decoder_bytes.specs.Inner.{Stacked}
use Rattle.decoder_bytes.proofs.stack.Given as goal

abbrev pub invariant-loop-j : goal.invariant-loop-j
invariant-loop-j l = (l.j ≤ 4) × (length l.room ≡ 1440) × Stacked l.a l.b l.t.x l.t.y l.t.step l.t.groups (2 * l.j) l.room
