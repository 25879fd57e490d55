use mathlib.Core.Path.{◌≡◌}
use Prim.Native.Nat.{◌+◌, ◌-◌, ◌%◌, ◌<◌}
use lib.ListN.{length}
use Rattle.slots_residues.specs.Inner.{Scattered}
use Rattle.slots_residues.proofs.scatter_each.Given as goal

abbrev pub invariant-loop-i : goal.invariant-loop-i
invariant-loop-i g l =
    ((l.i - l.lane.from) % l.lane.n ≡ 0) × (l.i - l.lane.from < l.lane.to - l.lane.from + l.lane.n) × (length l.words ≡ length l.initial.words) × Scattered l.row l.lane.from (l.i - l.lane.from) l.lane.n l.lane.m l.lane.t l.initial.words l.words
