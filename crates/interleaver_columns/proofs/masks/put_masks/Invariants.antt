use mathlib.Core.Path.{◌≡◌}
use Prim.Native.Nat.{ℕ, ◌%◌, ◌^◌, ◌<◌}
use lib.ListN.{length, get_or}
use Rattle.interleaver_columns.specs.Inner.{column_of}
use Rattle.interleaver_columns.proofs.masks.put_masks.Given as goal

abbrev pub invariant-loop-c : goal.invariant-loop-c
invariant-loop-c l = (length l.mask ≡ 1008) × ((y : ℕ) → y < 144 → column_of (y % 72) < l.c → get_or l.mask y 0 ≡ 2 ^ get_or l.up (column_of (y % 72)) 0)
