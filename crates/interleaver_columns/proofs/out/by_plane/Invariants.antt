use mathlib.Core.Path.{◌≡◌}
use Prim.Native.Nat.{ℕ, ◌/◌, ◌%◌, ◌<◌}
use lib.ListN.{length, get_or}
use Rattle.interleaver_columns.specs.Inner.{column_at, from_out}
use Rattle.interleaver_columns.proofs.out.by_plane.Given as goal

abbrev pub invariant-loop-c : goal.invariant-loop-c
invariant-loop-c l = (length l.from ≡ 72) × ((q : ℕ) → q < 72 → column_at (q / 9) (q % 9) < l.c → get_or l.from q 0 ≡ from_out q)
