use mathlib.Core.Path.{◌≡◌}
use Prim.Native.Nat.{ℕ, ◌+◌, ◌-◌, ◌*◌, ◌%◌, ◌≤◌}
use lib.ListN.{length}
use Rattle.bits.specs.Pack.{piece}
use Rattle.sizes.specs.Sizes.{word_bytes}
use Rattle.slots_moves.specs.Inner.{Holds}
use Rattle.slots_lines.specs.Inner.{stride, so_far}
use Rattle.slots_lines.proofs.put_residue.Given as goal

abbrev pub invariant-loop-s : goal.invariant-loop-s
invariant-loop-s l =
    ((l.s - l.skip) % stride l.p.layout.rows ≡ l.r) × (l.line * l.p.layout.symbols ≤ l.s - l.skip) × (l.delay + l.r ≤ l.s - l.skip) × (length l.slots ≡ length l.initial.slots)
    × ((e : ℕ) → Holds l.p (so_far l.p (piece word_bytes l.words) l.line l.r 0) e l.initial.slots → Holds l.p (so_far l.p (piece word_bytes l.words) l.line l.r (l.s - l.skip)) e l.slots) × (l.skip ≤ l.s)
