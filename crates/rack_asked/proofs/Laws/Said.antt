-- The answer is the first no; the questions before it were answered yes.
use mathlib.Core.Path.{◌≡◌, refl, sym, ap, ◌∙◌}
use mathlib.Core.Bool.{Bool, true, false, not}
use mathlib.Core.List.{List}
use Prim.Native.Nat.{ℕ, ◌≤◌, ◌<◌}
use lib.Dec.{ltb, eqb}
use lib.ListN.{length}
use borrow.Author.Tests.{ltb-true, eqb-true, lt-ltb, le-ltb, eq-eqb, ne_eqb}
use Rattle.bits.specs.Basics.{both}
use Rattle.bits.proofs.Laws.Table.{both_true, both_false}
use Rattle.answers.specs.Answer.{Answer, Done, No, ask, then, after}
use Rattle.header_questions.proofs.Laws.Good.{header_good}
use Rattle.rack.proofs.Laws.Rack.{accepted}
use Rattle.rack.specs.Rack.{entry_at, put, status_in, loaded, Task, Load, Read, Drop, Lend, Call, call_of, loan_right, missions_right, place_right, allowed, header_asked, rack_lengths_right, entry_for, says, entry_after, after_call}
use Rattle.rack_entries.specs.Inner.{OwnedPlace}

both_yes : (t : Bool) → both t true ≡ t
both_yes true = refl
both_yes false = refl

-- the questions, one by one
pub asked : (area : List ℕ) (c o p : ℕ) (task : Task) → loan_right c task ≡ true
    → then (ask (both (ltb c 4) (ltb o 4)) 23 0)
    (then (ask (ltb p 4) 24 0)
    (then (ask (allowed c o task (entry_at area o p)) 25 0)
    (then (header_asked task)
    (ask (rack_lengths_right (length area) task) 8 0))))
    ≡ says area (call_of c o p task)
unfolding says missions_right place_right
asked area c o p task loan = sym (rw (loan, both_yes (both (ltb c 4) (ltb o 4))) refl)

-- two questions of one number are one
pub both_asked : (t u : Bool) (n p : ℕ) → then (ask t n p) (ask u n p) ≡ ask (both t u) n p
both_asked true u n p = refl
both_asked false u n p = refl

-- a loan that is not right, and one that is
pub say_loan : (area : List ℕ) (c o p to : ℕ) → loan_right c (Lend to) ≡ false → No 23 0 ≡ says area (call_of c o p (Lend to))
unfolding says missions_right
say_loan area c o p to e = sym (rw (e, both_false (both (ltb c 4) (ltb o 4))) refl)

pub lend_as_drop : (area : List ℕ) (c o p to : ℕ) → loan_right c (Lend to) ≡ true → says area (call_of c o p Drop) ≡ says area (call_of c o p (Lend to))
unfolding says missions_right place_right
lend_as_drop area c o p to e = sym (rw e refl)

-- ---- what is left of a refused call, and of an accepted one

pub step_no : (area : List ℕ) (call : Call) (n p : ℕ) → No n p ≡ says area call → area ≡ after_call area call
unfolding after_call
step_no area call n p e = rw (← e) refl

pub step_yes : (area : List ℕ) (call : Call) → Done ≡ says area call → put area call.owner call.place (entry_after call.task (entry_for area call)) ≡ after_call area call
unfolding after_call
step_yes area call e = rw (← e) refl

-- ---- the place that was named

pub missions_place : (c o p : ℕ) → both (ltb c 4) (ltb o 4) ≡ true → p < 4 → OwnedPlace o p
missions_place c o p e l = record { owner = ltb-true o 4 (both_true (ltb c 4) (ltb o 4) e).1; place = l }

-- ---- what an accepted call tells

pub named : (area : List ℕ) (call : Call) → Done ≡ says area call → OwnedPlace call.owner call.place
named area call e = let k = accepted area call (sym e) in record { owner = k.owner; place = k.place }

pub area_whole : (area : List ℕ) (call : Call) → Done ≡ says area call → length area ≡ 176
area_whole area call e = (accepted area call (sym e)).long

pub lent_mission : (area : List ℕ) (c o p to : ℕ) → Done ≡ says area (call_of c o p (Lend to)) → to < 4
lent_mission area c o p to e =
    ltb-true to 4 (both_true (ltb to 4) (not (eqb to c)) (accepted area (call_of c o p (Lend to)) (sym e)).loan).0

pub slice_whole : (area : List ℕ) (c o p : ℕ) (slice : List ℕ) → Done ≡ says area (call_of c o p (Read slice)) → length slice ≡ 10
slice_whole area c o p slice e =
    eqb-true (length slice) 10 (both_true (eqb (length area) 176) (eqb (length slice) 10) (accepted area (call_of c o p (Read slice)) (sym e)).lengths).1

pub header_whole : (area : List ℕ) (c o p : ℕ) (header : List ℕ) → Done ≡ says area (call_of c o p (Load header)) → length header ≡ 10
header_whole area c o p header e = (header_good header (accepted area (call_of c o p (Load header)) (sym e)).header).long
