use mathlib.Core.Path.{◌≡◌}
use mathlib.Core.Bool.{true}
use mathlib.Core.List.{List}
use Prim.Native.Nat.{ℕ, ◌+◌, ◌-◌, ◌*◌, ◌%◌, ◌≤◌, ◌<◌, min}
use lib.ListN.{length}
use Rattle.channel.specs.Channel.{unit, rest_zero}
use Rattle.channel.specs.Inner as places
use Rattle.slots.specs.Reading.{pooled_in}
use Rattle.slots_symbols.specs.Inner.{Row}
use Rattle.slots_places.specs.Inner.{Took}
use Rattle.slots_places.proofs.take_in.Given as goal

abbrev pub invariant-loop-s : goal.invariant-loop-s
invariant-loop-s l =
    (l.part.from ≤ l.s) × (l.part.line * unit l.p.layout + l.p.layout.markers ≤ l.s) × (l.delay ≡ places.delay l.p.layout ((l.s - l.skip) % l.p.layout.rows)) × (length l.words ≡ length l.initial.words)
    × ((b : List ℕ) → Row l.p b l.part.base l.part.to l.row → Took l.p b l.part.from l.initial.words → ((k : ℕ) → l.part.from ≤ k → k < l.s → k < l.part.to → rest_zero l.p.layout (pooled_in l.p b) k ≡ true) × Took l.p b (min l.s l.part.to) l.words)
