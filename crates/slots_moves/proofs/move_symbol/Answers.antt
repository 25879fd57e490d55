-- The only copy of a symbol is its group.
use mathlib.Core.Path.{◌≡◌, sym, ap, ◌∙◌}
use Prim.Native.Nat.{ℕ, ◌+◌, ◌*◌, ◌^◌, ◌≤◌, ◌<◌}
use native.Mathlib.Omega.{arith}
use lib.ListN.{length}
use Rattle.slots_moves.proofs.Laws.Moves.{one_moved}
use Rattle.slots_moves.specs.Inner.{Copied}
use mathlib.Core.List.{List}
use Rattle.slots_moves.proofs.move_symbol.Goals as goal

pub returns-then-copies-eq1 : goal.returns-then-copies-eq1
returns-then-copies-eq1 c =
    let a = c.args in
    let m = c.move_pulse in
    λ p o. one_moved p a.copies a.group a.s a.q o c.if-copies-eq1.true a.slots.now _ m.ensures (λ i. omega (arith, c.type_inv.slots i))
