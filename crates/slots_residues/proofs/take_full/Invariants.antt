use mathlib.Core.Path.{◌≡◌}
use Prim.Native.Nat.{ℕ, ◌+◌, ◌-◌, ◌%◌, ◌≤◌}
use lib.ListN.{length}
use Rattle.channel.specs.Inner as places
use Rattle.slots_residues.specs.Inner.{Shown, Laid, before, reached}
use Rattle.slots_residues.proofs.take_full.Given as goal

abbrev pub invariant-loop-r : goal.invariant-loop-r
invariant-loop-r l =
    (l.r ≤ l.n) × (l.delay ≡ places.delay l.p.layout (l.r % l.p.layout.rows)) × (length l.words ≡ length l.initial.words)
    × ((at : ℕ → ℕ) → Shown at l.row l.from (l.to - l.from) l.x → Laid l.p at (before l.x) l.initial.words → Laid l.p at (reached l.n l.r l.x (l.x + (l.to - l.from))) l.words)
