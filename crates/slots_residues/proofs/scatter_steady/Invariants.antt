use mathlib.Core.Path.{◌≡◌}
use Prim.Native.Nat.{◌+◌, ◌-◌, ◌*◌, ◌/◌, ◌%◌, ◌≤◌, ◌<◌}
use lib.ListN.{length}
use Rattle.slots_residues.specs.Inner.{Scattered}
use Rattle.slots_residues.proofs.scatter_steady.Given as goal

abbrev pub invariant-loop-i : goal.invariant-loop-i
invariant-loop-i l =
    (l.fn.lane.from ≤ l.i) × ((l.i - l.fn.lane.from) % l.fn.lane.n ≡ 0) × (l.at ≡ l.fn.lane.m * (l.fn.lane.t + (l.i - l.fn.lane.from)) / 8) × (l.fn.lane.m * (l.fn.lane.t + (l.i - l.fn.lane.from)) % 8 ≡ l.fn.lane.m * l.fn.lane.t % 8) × (l.i - l.fn.lane.from < l.fn.lane.to - l.fn.lane.from + l.fn.lane.n) × (length l.words ≡ length l.initial.words) × Scattered l.row l.fn.lane.from (l.i - l.fn.lane.from) l.fn.lane.n l.fn.lane.m l.fn.lane.t l.initial.words l.words
