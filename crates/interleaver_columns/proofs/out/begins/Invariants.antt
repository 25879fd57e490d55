use mathlib.Core.Path.{◌≡◌}
use Prim.Native.Nat.{◌%◌}
use lib.ListN.{length}
use Rattle.bits.specs.Inner.{Filled}
use Rattle.interleaver.specs.Interleaver.{source_bit}
use Rattle.interleaver_columns.proofs.out.begins.Given as goal

abbrev pub invariant-loop-c : goal.invariant-loop-c
invariant-loop-c l = (length l.start ≡ 72) × Filled (λ c. source_bit c % 2160) l.start l.c
