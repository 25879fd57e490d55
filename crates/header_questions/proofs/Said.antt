-- Eight bytes that are read are there once question 1 is answered yes.
use mathlib.Core.Path.{◌≡◌}
use mathlib.Core.Bool.{true}
use mathlib.Core.List.{List}
use Prim.Native.Nat.{ℕ, ◌≤◌}
use native.Mathlib.Omega.{arith}
use lib.Dec.{eqb}
use lib.ListN.{length}
use borrow.Author.Tests.{eqb-true}
use Rattle.bits.proofs.Laws.Table.{both_true}
use Rattle.header.specs.Header.{spare_of, old_spare_of}
use Rattle.header_questions.specs.Questions.{question1, old_question1}

pub question1_long : (header : List ℕ) → question1 header ≡ true → 8 ≤ length header
unfolding question1
question1_long header e = let l = eqb-true (length header) 10 (both_true (eqb (length header) 10) (eqb (spare_of header) 0) e).0 in omega arith

pub old_long : (old : List ℕ) → old_question1 old ≡ true → 8 ≤ length old
unfolding old_question1
old_long old e = let l = eqb-true (length old) 8 (both_true (eqb (length old) 8) (eqb (old_spare_of old) 0) e).0 in omega arith
