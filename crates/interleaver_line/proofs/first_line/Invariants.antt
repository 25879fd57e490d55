use mathlib.Core.Path.{◌≡◌}
use Prim.Native.Nat.{ℕ, ◌<◌}
use lib.ListN.{length, get_or}
use Rattle.interleaver.specs.Interleaver.{source_bit, Squares}
use Rattle.interleaver_line.proofs.first_line.Given as goal

abbrev pub invariant-loop-c : goal.invariant-loop-c
invariant-loop-c l = Squares l.squares × (length l.off ≡ 72) × ((k : ℕ) → k < l.c → get_or l.off k 0 ≡ source_bit k)
