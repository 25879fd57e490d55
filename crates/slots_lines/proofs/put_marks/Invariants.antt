use mathlib.Core.Path.{◌≡◌}
use mathlib.Core.List.{List}
use Prim.Native.Nat.{ℕ, ◌+◌, ◌*◌, ◌≤◌}
use lib.ListN.{length}
use Rattle.channel.specs.Channel.{unit}
use Rattle.slots_moves.specs.Inner.{Holds, front}
use Rattle.slots_lines.proofs.put_marks.Given as goal

abbrev pub invariant-loop-k : goal.invariant-loop-k
invariant-loop-k l =
    (l.k ≤ l.markers) × (length l.slots ≡ length l.initial.slots) × ((word : ℕ → List ℕ) (end : ℕ) → Holds l.p (front l.p word (l.line * unit l.p.layout)) end l.initial.slots → Holds l.p (front l.p word (l.line * unit l.p.layout + l.k)) end l.slots)
