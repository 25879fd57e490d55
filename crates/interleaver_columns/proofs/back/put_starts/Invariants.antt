use mathlib.Core.Path.{◌≡◌}
use Prim.Native.Nat.{ℕ, ◌<◌}
use lib.ListN.{length, get_or}
use Rattle.interleaver_columns.specs.Inner.{column_of, start_in}
use Rattle.interleaver_columns.proofs.back.put_starts.Given as goal

abbrev pub invariant-loop-c : goal.invariant-loop-c
invariant-loop-c l = (length l.at ≡ 72) × ((b : ℕ) → b < 72 → column_of b < l.c → get_or l.at b 0 ≡ start_in b)
