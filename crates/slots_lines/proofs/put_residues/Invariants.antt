use mathlib.Core.Path.{◌≡◌}
use Prim.Native.Nat.{ℕ, ◌+◌, ◌*◌, ◌≤◌}
use lib.ListN.{length}
use Rattle.bits.specs.Pack.{piece}
use Rattle.slots_moves.specs.Inner.{Holds, front}
use Rattle.slots_lines.specs.Inner.{so_far}
use Rattle.sizes.specs.Sizes.{word_bytes}
use Rattle.channel.specs.Channel.{unit}
use Rattle.slots_lines.proofs.put_residues.Given as goal

abbrev pub invariant-loop-r : goal.invariant-loop-r
invariant-loop-r l =
    (l.r ≤ l.to) × (length l.slots ≡ length l.initial.slots)
    × ((e : ℕ) → Holds l.p (front l.p (piece word_bytes l.words) (l.line * unit l.p.layout + l.p.layout.markers)) e l.initial.slots → Holds l.p (so_far l.p (piece word_bytes l.words) l.line l.r 0) e l.slots)
