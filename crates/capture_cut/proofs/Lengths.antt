-- The lengths that the test says are right.
use mathlib.Core.Path.{◌≡◌}
use mathlib.Core.Bool.{true}
use Prim.Native.Nat.{ℕ, ◌+◌, ◌*◌}
use lib.Dec.{leb, eqb}
use borrow.Author.Tests.{leb-true, eqb-true}
use Rattle.bits.specs.Basics.{both}
use Rattle.bits.proofs.Laws.Table.{both_true}
use Rattle.header.specs.declared.Fields.{Fields}
use Rattle.header_sizes.specs.Quantities.{slot_count, slot_bytes}
use Rattle.capture_search.specs.Search.{capture_most}
use Rattle.capture_cut.specs.Cut.{cut_lengths_right}
use Rattle.capture_cut.proofs.Laws.Cut.{Right}

pub lengths_are : (f : Fields) (n s m : ℕ) → cut_lengths_right f n s m ≡ true → Right f n s m
unfolding cut_lengths_right
lengths_are f n s m e =
    let a = both_true (leb n capture_most) (both (eqb m (slot_bytes f)) (leb (s + slot_count f) (8 * n))) e in
    let b = both_true (eqb m (slot_bytes f)) (leb (s + slot_count f) (8 * n)) a.1 in
    record { most = leb-true n capture_most a.0; slots_are = eqb-true m (slot_bytes f) b.0; inside = leb-true (s + slot_count f) (8 * n) b.1 }
