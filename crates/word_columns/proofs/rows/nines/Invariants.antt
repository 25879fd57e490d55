use mathlib.Core.Path.{◌≡◌}
use Prim.Native.Nat.{ℕ, ◌*◌, ◌≤◌, ◌<◌}
use lib.ListN.{length, get_or}
use Rattle.word_columns.specs.Inner.{nine_of}
use Rattle.word_columns.proofs.rows.nines.Given as goal

abbrev pub invariant-loop-r : goal.invariant-loop-r
invariant-loop-r l =
    (length l.out ≡ length l.initial.out) × ((k : ℕ) → k < 9 * l.r → get_or l.out k 0 ≡ get_or l.from (nine_of l.by k) 0) × ((k : ℕ) → 9 * l.r ≤ k → get_or l.out k 0 ≡ get_or l.initial.out k 0)
