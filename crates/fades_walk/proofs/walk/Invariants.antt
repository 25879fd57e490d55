use mathlib.Core.Path.{◌≡◌}
use Prim.Native.Nat.{◌-◌, ◌≤◌}
use Rattle.channel.specs.Channel as channel
use Rattle.fades_walk.specs.Inner.{Stands}
use Rattle.fades_list.specs.Inner.{Left}
use Rattle.fades_walk.proofs.Walked.{Counted}
use Rattle.fades_walk.proofs.walk.Given as goal

abbrev pub invariant-loop-a : goal.invariant-loop-a
invariant-loop-a l = (l.n ≡ channel.layout_symbols l.g) × (l.a.symbol ≤ l.n) × Stands l.g l.a × Left l.fades l.i l.a.symbol × Counted l.g l.fades l.a.symbol l.counts

abbrev pub decreases-loop-a : goal.decreases-loop-a
decreases-loop-a l = l.n - l.a.symbol
