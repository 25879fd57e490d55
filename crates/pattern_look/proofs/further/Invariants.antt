use mathlib.Core.Path.{◌≡◌}
use Prim.Native.Nat.{◌+◌, ◌*◌}
use Rattle.bits.specs.Basics.{up_to}
use Rattle.bits.specs.Pack.{clear_at}
use Rattle.pattern_look.proofs.further.Given as goal

abbrev pub invariant-loop-k : goal.invariant-loop-k
invariant-loop-k l = up_to (clear_at l.b) (8 * (l.from + 8 * l.k)) l.end ≡ up_to (clear_at l.b) l.x l.end
