use mathlib.Core.Path.{◌≡◌}
use lib.ListN.{length}
use Rattle.bits.specs.Inner.{Filled}
use Rattle.interleaver_columns.specs.Inner.{taken_by, start_in, up_in}
use Rattle.interleaver_columns.proofs.back.taken_columns.Given as goal

abbrev pub invariant-loop-c : goal.invariant-loop-c
invariant-loop-c l = (length l.column ≡ 72) × (length l.start ≡ 72) × (length l.up ≡ 72) × Filled taken_by l.column l.c × Filled (λ c. start_in (taken_by c)) l.start l.c × Filled (λ c. up_in (taken_by c)) l.up l.c
