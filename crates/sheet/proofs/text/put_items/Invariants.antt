use mathlib.Core.Path.{◌≡◌}
use mathlib.Core.List.{◌++◌}
use Prim.Native.Nat.{◌+◌, ◌-◌, ◌*◌, ◌≤◌}
use lib.ListN.{length, take, drop}
use Rattle.sheet.specs.Text.{items}
use Rattle.sheet.proofs.text.put_items.Given as goal

abbrev pub invariant-loop-i : goal.invariant-loop-i
invariant-loop-i l =
    (l.i ≤ length l.numbers) × (length l.out ≡ length l.initial.out) × (l.next ≤ l.at + 21 * l.i) × (take l.next l.out ++ items (drop l.i l.numbers) ≡ take l.at l.initial.out ++ items l.numbers)

abbrev pub decreases-loop-i : goal.decreases-loop-i
decreases-loop-i l = length l.numbers - l.i
