use mathlib.Core.Path.{◌≡◌}
use Prim.Native.Nat.{◌+◌, ◌*◌}
use lib.ListN.{get_or}
use Rattle.word_columns.specs.Inner.{mix_sum}
use Rattle.word_columns.proofs.mixing.mixed.Given as goal

abbrev pub invariant-loop-i : goal.invariant-loop-i
invariant-loop-i l = l.v ≡ mix_sum (λ i. get_or l.coded (l.x + 2160 * i) 0) (λ i. get_or l.mask (144 * i + l.y) 0) l.i
