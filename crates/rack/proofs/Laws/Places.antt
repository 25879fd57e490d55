-- What becomes of a place: its header is the one that its owner loaded last, its loan the one that its owner made last.
use mathlib.Core.Path.{◌≡◌, refl, sym, ap, ap₂, ◌∙◌}
use mathlib.Core.Bool.{Bool, true, false, not, ◌||◌}
use mathlib.Core.List.{List}
use mathlib.Core.Logic.{◌⊎◌, inl, inr, ⊎_elim}
use Prim.Native.Nat.{ℕ, suc, ◌+◌, ◌*◌, ◌<◌}
use native.Mathlib.Omega.{arith}
use lib.Dec.{ltb, eqb}
use lib.ListN.{length, get_or, replicate, length-drop}
use borrow.Author.Tests.{ltb-true, lt-ltb, eqb-true, eq-eqb, ne_eqb, not-false}
use Rattle.bits.specs.Basics.{pick, both}
use Rattle.bits.proofs.Laws.Choice.{eq_or_ne}
use Rattle.bits.proofs.Laws.Table.{both_true, both_false, either_right, length_tab, tab_made}
use Rattle.answers.specs.Answer.{Answer, Done, No, ask, then}
use Rattle.header_questions.specs.Questions.{header_says}
use Rattle.header_questions.proofs.Laws.Good.{header_good}
use Rattle.rack.specs.Rack.{entry_number, entry_at, status_in, header_in, loaded, lent_to, Task, Load, Read, Drop, Lend, Call, call_of, missions_right, place_right, allowed, header_asked, entry_for, says, entry_after, after_call, told_of}
use Rattle.rack.specs.Traces.{lent}
use Rattle.rack.proofs.Laws.Rack.{not_allowed, accepted, step_refused, step_elsewhere, step_here, same_or_other}

-- ---- entries made

length_entry : (area : List ℕ) (o p : ℕ) → length (entry_at area o p) ≡ 11
unfolding entry_at
length_entry area o p = length_tab 11 (λ k. get_or area (11 * entry_number o p + k) 0)

length_after : (task : Task) (entry : List ℕ) → header_asked task ≡ Done → length entry ≡ 11 → length (entry_after task entry) ≡ 11
length_after (Load header) entry e l = ap suc (header_good header e).long
length_after (Read slice) entry e l = l
length_after Drop entry e l = refl
length_after (Lend to) entry e l = let d = length-drop 1 entry in omega arith

-- the entry after an accepted call
pub step_made : (area : List ℕ) (call : Call) → says area call ≡ Done → entry_for (after_call area call) call ≡ entry_after call.task (entry_for area call)
step_made area call e =
    let made : List ℕ = entry_after call.task (entry_for area call) in
    let long : length made ≡ 11 = length_after call.task (entry_for area call) (accepted area call e).header (length_entry area call.owner call.place) in
    step_here area call e ∙ sym (tab_made 11 (λ k. get_or made k 0) made long (λ i l. refl))

-- ---- loans

-- a place is lent as its status says
lent_same : (m : ℕ) (a b : List ℕ) (o p : ℕ) → (p < 4 → lent_to m (entry_at a o p) ≡ lent_to m (entry_at b o p)) → lent m a o p ≡ lent m b o p
unfolding lent
lent_same m a b o p h = cases (ltb o 4) (ltb p 4) refl
  where
    cases : (t u : Bool) → ltb p 4 ≡ u → both (both t u) (lent_to m (entry_at a o p)) ≡ both (both t u) (lent_to m (entry_at b o p))
    cases true true e = h (ltb-true p 4 e)
    cases true false e = refl
    cases false u e = refl

lent_in_lem : (m : ℕ) (area : List ℕ) (o p : ℕ) → o < 4 → p < 4 → lent m area o p ≡ lent_to m (entry_at area o p)
unfolding lent
lent_in_lem m area o p ho hp = rw (lt-ltb o 4 ho, lt-ltb p 4 hp) refl

-- loading keeps it
load_lent : (m : ℕ) (header entry : List ℕ) → lent_to m (entry_after (Load header) entry) ≡ lent_to m entry
unfolding lent_to
load_lent m header entry = ap (both (ltb m 4)) (cases (eqb (status_in entry) 0) refl)
  where
    cases : (t : Bool) → eqb (status_in entry) 0 ≡ t → eqb (pick t 1 (status_in entry)) (2 + m) ≡ eqb (status_in entry) (2 + m)
    cases true e =
        let z : status_in entry ≡ 0 = eqb-true (status_in entry) 0 e in
        ne_eqb 1 (2 + m) (λ q. omega arith) ∙ sym (ne_eqb (status_in entry) (2 + m) (λ q. omega arith))
    cases false e = refl

pub load_keeps_loans : (area : List ℕ) (c o p : ℕ) (header : List ℕ) (m x y : ℕ) → lent m (after_call area (call_of c o p (Load header))) x y ≡ lent m area x y
load_keeps_loans area c o p header m x y = cases (says area call) refl
  where
    call : Call
    call = call_of c o p (Load header)

    cases : (answer : Answer) → says area call ≡ answer → lent m (after_call area call) x y ≡ lent m area x y
    cases Done e =
        lent_same m (after_call area call) area x y (λ hy.
        ⊎_elim
        (λ (r : (o ≡ x) × (p ≡ y)). rw (← r.0, ← r.1) (ap (lent_to m) (step_made area call e) ∙ load_lent m header (entry_at area o p)))
        (λ (n : (o ≡ x) × (p ≡ y) → ⊥). ap (lent_to m) (step_elsewhere area call x y hy n))
        (same_or_other o p x y))
    cases (No number place) e = ap (λ (a : List ℕ). lent m a x y) (step_refused area call number place e)

-- a loan is to the one mission and to no other
pub lend_lends : (area : List ℕ) (c o p to : ℕ) → says area (call_of c o p (Lend to)) ≡ Done → (m : ℕ) → lent m (after_call area (call_of c o p (Lend to))) o p ≡ eqb m to
unfolding lent_to
lend_lends area c o p to e m =
    let call : Call = call_of c o p (Lend to) in
    let a = accepted area call e in
    let small : to < 4 = ltb-true to 4 (both_true (ltb to 4) (not (eqb to c)) a.loan).0 in
    lent_in_lem m (after_call area call) o p a.owner a.place
    ∙ ap (lent_to m) (step_made area call e)
    ∙ ⊎_elim
    (λ (q : m ≡ to). let l : m < 4 = omega arith in rw (lt-ltb m 4 l, eq-eqb m to q, eq-eqb (2 + to) (2 + m) (omega arith)) refl)
    (λ (n : m ≡ to → ⊥). rw (ne_eqb m to n, ne_eqb (2 + to) (2 + m) (λ q. n (omega arith))) (both_false (ltb m 4)))
    (eq_or_ne m to)

-- a place that was dropped is empty and lent to nobody
pub drop_empties : (area : List ℕ) (c o p : ℕ) → says area (call_of c o p Drop) ≡ Done → entry_at (after_call area (call_of c o p Drop)) o p ≡ replicate 11 0
drop_empties area c o p e = step_made area (call_of c o p Drop) e

pub empty_unlent : (m : ℕ) (area : List ℕ) (o p : ℕ) → loaded (entry_at area o p) ≡ false → lent m area o p ≡ false
unfolding lent lent_to loaded
empty_unlent m area o p e =
    let z : status_in (entry_at area o p) ≡ 0 = eqb-true (status_in (entry_at area o p)) 0 (not-false (eqb (status_in (entry_at area o p)) 0) e) in
    rw (ne_eqb (status_in (entry_at area o p)) (2 + m) (λ q. omega arith)) (rw (both_false (ltb m 4)) (both_false (both (ltb o 4) (ltb p 4))))

pub drop_ends_loan : (area : List ℕ) (c o p : ℕ) → says area (call_of c o p Drop) ≡ Done → (m : ℕ) → lent m (after_call area (call_of c o p Drop)) o p ≡ false
unfolding loaded
drop_ends_loan area c o p e m = empty_unlent m (after_call area (call_of c o p Drop)) o p (ap loaded (drop_empties area c o p e))

-- a loan that was not there before is one that the owner made
made_how : (m c o : ℕ) (task : Task) (entry : List ℕ) → allowed c o task entry ≡ true → lent_to m (entry_after task entry) ≡ true
    → (lent_to m entry ≡ true) ⊎ ((c ≡ o) × (task ≡ Lend m))
unfolding lent_to
made_how m c o (Load header) entry may e = inl (sym (load_lent m header entry) ∙ e)
made_how m c o (Read slice) entry may e = inl e
made_how m c o Drop entry may e = let z = eqb-true 0 (2 + m) (both_true (ltb m 4) (eqb 0 (2 + m)) e).1 in absurd (omega arith)
made_how m c o (Lend to) entry may e =
    let q = eqb-true (2 + to) (2 + m) (both_true (ltb m 4) (eqb (2 + to) (2 + m)) e).1 in
    inr (eqb-true c o (both_true (loaded entry) (eqb c o) may).1, ap Lend (omega arith))

pub lent_how : (area : List ℕ) (call : Call) (m o p : ℕ) → lent m (after_call area call) o p ≡ true
    → (lent m area o p ≡ true) ⊎ ((call ≡ call_of o o p (Lend m)) × (says area call ≡ Done))
lent_how area call m o p e = cases (says area call) refl
  where
    whole : (c x y : ℕ) (task : Task) → c ≡ o → x ≡ o → y ≡ p → task ≡ Lend m → call_of c x y task ≡ call_of o o p (Lend m)
    whole c x y task e1 e2 e3 e4 = cc

    cases : (answer : Answer) → says area call ≡ answer → (lent m area o p ≡ true) ⊎ ((call ≡ call_of o o p (Lend m)) × (says area call ≡ Done))
    cases Done d =
        let a = accepted area call d in
        ⊎_elim
        (λ (r : (call.owner ≡ o) × (call.place ≡ p)).
        let ho : o < 4 = rw (← r.0) a.owner in
        let hp : p < 4 = rw (← r.1) a.place in
        let made : lent_to m (entry_for (after_call area call) call) ≡ true =
        ap₂ (λ (x y : ℕ). lent_to m (entry_at (after_call area call) x y)) r.0 r.1 ∙ sym (lent_in_lem m (after_call area call) o p ho hp) ∙ e in
        ⊎_elim
        (λ (l : lent_to m (entry_for area call) ≡ true). inl (lent_in_lem m area o p ho hp ∙ rw (← r.0, ← r.1) l))
        (λ (w : (call.caller ≡ call.owner) × (call.task ≡ Lend m)). inr (whole call.caller call.owner call.place call.task (w.0 ∙ r.0) r.0 r.1 w.1, d))
        (made_how m call.caller call.owner call.task (entry_for area call) a.may (ap (lent_to m) (sym (step_made area call d)) ∙ made)))
        (λ (n : (call.owner ≡ o) × (call.place ≡ p) → ⊥).
        inl (lent_same m area (after_call area call) o p (λ hp. ap (lent_to m) (sym (step_elsewhere area call o p hp n))) ∙ e))
        (same_or_other call.owner call.place o p)
    cases (No number place) d = inl (ap (λ (a : List ℕ). lent m a o p) (sym (step_refused area call number place d)) ∙ e)

-- ---- reading

module _ (area : List ℕ) (c o p : ℕ) (hc : c < 4) (ho : o < 4) (hp : p < 4) (slice : List ℕ) where
  -- 23 and 24 are passed
  read_asks : says area (call_of c o p (Read slice))
      ≡ then (ask (allowed c o (Read slice) (entry_at area o p)) 25 0) (ask (both (eqb (length area) 176) (eqb (length slice) 10)) 8 0)
  unfolding says missions_right place_right
  read_asks = rw (lt-ltb c 4 hc, lt-ltb o 4 ho, lt-ltb p 4 hp) refl

  -- what must not be read: the same number whether the place is empty or not lent, and the slice as it was
  told_25 : allowed c o (Read slice) (entry_at area o p) ≡ false → told_of area (call_of c o p (Read slice)) ≡ record { code = 25; slice = slice }
  told_25 e = rw (read_asks, e) refl

  pub empty_told : loaded (entry_at area o p) ≡ false → told_of area (call_of c o p (Read slice)) ≡ record { code = 25; slice = slice }
  empty_told e = told_25 (ap (λ (t : Bool). both t (eqb c o || lent_to c (entry_at area o p))) e)

  pub unlent_told : (c ≡ o → ⊥) → lent c area o p ≡ false → told_of area (call_of c o p (Read slice)) ≡ record { code = 25; slice = slice }
  unlent_told n e = told_25 (not_allowed c o (Read slice) (entry_at area o p) (ne_eqb c o n) (sym (lent_in_lem c area o p ho hp) ∙ e))

  -- what may be read: a loaded place that is one's own or lent
  pub header_told : loaded (entry_at area o p) ≡ true → (c ≡ o) ⊎ (lent c area o p ≡ true) → length area ≡ 176 → length slice ≡ 10
      → told_of area (call_of c o p (Read slice)) ≡ record { code = 0; slice = header_in (entry_at area o p) }
  header_told e may long room =
      let yes : eqb c o || lent_to c (entry_at area o p) ≡ true =
      ⊎_elim
      (λ (q : c ≡ o). rw (eq-eqb c o q) refl)
      (λ (l : lent c area o p ≡ true). either_right (eqb c o) (lent_to c (entry_at area o p)) (sym (lent_in_lem c area o p ho hp) ∙ l))
      may in
      rw (read_asks, e, yes, eq-eqb (length area) 176 long, eq-eqb (length slice) 10 room) refl

-- ---- what else a mission may do in its own places

module _ (area : List ℕ) (c p : ℕ) (hc : c < 4) (hp : p < 4) (long : length area ≡ 176) where
  pub may_load : (header : List ℕ) → header_says header ≡ Done → says area (call_of c c p (Load header)) ≡ Done
  unfolding says missions_right place_right
  may_load header e = rw (lt-ltb c 4 hc, lt-ltb p 4 hp, eq-eqb c c refl, e, eq-eqb (length area) 176 long) refl

  pub may_drop : loaded (entry_at area c p) ≡ true → says area (call_of c c p Drop) ≡ Done
  unfolding says missions_right place_right
  may_drop e = rw (lt-ltb c 4 hc, lt-ltb p 4 hp, e, eq-eqb c c refl, eq-eqb (length area) 176 long) refl

  pub may_lend : (to : ℕ) → loaded (entry_at area c p) ≡ true → to < 4 → (to ≡ c → ⊥) → says area (call_of c c p (Lend to)) ≡ Done
  unfolding says missions_right place_right
  may_lend to e ht n = rw (lt-ltb c 4 hc, lt-ltb to 4 ht, ne_eqb to c n, lt-ltb p 4 hp, e, eq-eqb c c refl, eq-eqb (length area) 176 long) refl
