use mathlib.Core.Path.{◌≡◌}
use Prim.Native.Nat.{ℕ, ◌+◌, ◌<◌}
use lib.ListN.{length, get_or}
use Rattle.word_columns.specs.Inner.{mixed_at}
use Rattle.word_columns.proofs.mixing.two_lines.Given as goal

abbrev pub invariant-loop-y : goal.invariant-loop-y
invariant-loop-y l = (length l.v ≡ 4320) × ((k : ℕ) → k < l.at + l.y → get_or l.v k 0 ≡ mixed_at l.coded l.mask k)
