-- The area: one entry put, and what a step changes and leaves as it was.
use mathlib.Core.List.{List}
use Prim.Native.Nat.{ℕ, ◌+◌, ◌*◌, ◌/◌, ◌%◌, ◌≤◌, ◌<◌}
use lib.ListN.{replicate, length, get_or, get_or-eq_default}
use mathlib.Core.Path.{◌≡◌, refl, sym, ap, ◌∙◌}
use mathlib.Core.Bool.{Bool, true, false}
use mathlib.Core.Logic.{◌⊎◌, inl, inr, ⊎_elim}
use native.Mathlib.Omega.{arith}
use lib.Dec.{ltb, eqb}
use borrow.Author.Tests.{ltb-true, eqb-true, eq-eqb, ne_eqb}
use Rattle.bits.specs.Basics.{pick, tab, both}
use Rattle.bits.proofs.Laws.Choice.{lt_or_le, eq_or_ne}
use Rattle.bits.proofs.Laws.Table.{both_true, both_false, length_tab, get_or_tab, get_or_tab_past, tab_made, tab_same}
use Rattle.answers.specs.Answer.{Answer, Done, No, ask, after}
use Rattle.answers.proofs.Laws.Answer.{then_done, then_when, ask_done}
use Rattle.rack.specs.Rack.{entry_number, entry_at, put, loaded, lent_to, Task, Load, Read, Drop, Lend, Call, call_of, loan_right, missions_right, place_right, allowed, header_asked, rack_lengths_right, entry_for, says, entry_after, after_call}

-- the rack at the start
abbrev pub empty_rack : List ℕ
empty_rack = replicate 176 0

-- A call looks at one entry and changes no other.

-- ---- entries

pub length_put : (area : List ℕ) (o p : ℕ) (entry : List ℕ) → length (put area o p entry) ≡ length area
unfolding put
length_put area o p entry = length_tab (length area) (λ i. pick (eqb (i / 11) (entry_number o p)) (get_or entry (i % 11) 0) (get_or area i 0))

pub same_or_other : (o p x y : ℕ) → ((o ≡ x) × (p ≡ y)) ⊎ ((o ≡ x) × (p ≡ y) → ⊥)
same_or_other o p x y =
    ⊎_elim
    (λ (e : o ≡ x). ⊎_elim (λ (f : p ≡ y). inl (e, f)) (λ (n : p ≡ y → ⊥). inr (λ r. n r.1)) (eq_or_ne p y))
    (λ (n : o ≡ x → ⊥). inr (λ r. n r.0))
    (eq_or_ne o x)

-- what an entry is made of
pub entry_same : (a b : List ℕ) (o p : ℕ) → ((k : ℕ) → k < 11 → get_or a (11 * entry_number o p + k) 0 ≡ get_or b (11 * entry_number o p + k) 0) → entry_at a o p ≡ entry_at b o p
unfolding entry_at
entry_same a b o p h = tab_same 11 (λ k. get_or a (11 * entry_number o p + k) 0) (λ k. get_or b (11 * entry_number o p + k) 0) h

module _ (area : List ℕ) (o p : ℕ) (entry : List ℕ) where
  abbrev byte : ℕ → ℕ
  byte i = pick (eqb (i / 11) (entry_number o p)) (get_or entry (i % 11) 0) (get_or area i 0)

  -- there
  pub put_here : 11 * entry_number o p + 11 ≤ length area → entry_at (put area o p entry) o p ≡ tab 11 (λ k. get_or entry k 0)
  unfolding entry_at put
  put_here room =
      tab_same 11 (λ k. get_or (put area o p entry) (11 * entry_number o p + k) 0) (λ k. get_or entry k 0) (λ k l.
      let q : (11 * entry_number o p + k) / 11 ≡ entry_number o p = omega arith in
      let r : (11 * entry_number o p + k) % 11 ≡ k = omega arith in
      get_or_tab (length area) byte (11 * entry_number o p + k) (omega arith) ∙ rw (eq-eqb ((11 * entry_number o p + k) / 11) (entry_number o p) q, r) refl)

  -- and elsewhere
  pub put_there : (i : ℕ) → (i / 11 ≡ entry_number o p → ⊥) → get_or (put area o p entry) i 0 ≡ get_or area i 0
  unfolding put
  put_there i n =
      ⊎_elim
      (λ (l : i < length area). get_or_tab (length area) byte i l ∙ rw (ne_eqb (i / 11) (entry_number o p) n) refl)
      (λ (l : length area ≤ i). get_or_tab_past (length area) byte i l ∙ sym (get_or-eq_default area 0 l))
      (lt_or_le i (length area))

  pub put_other : (x y : ℕ) → p < 4 → y < 4 → ((o ≡ x) × (p ≡ y) → ⊥) → entry_at (put area o p entry) x y ≡ entry_at area x y
  put_other x y hp hy n =
      entry_same (put area o p entry) area x y (λ k l.
      put_there (11 * entry_number x y + k) (λ e. let same : entry_number x y ≡ entry_number o p = omega arith in n (omega arith, omega arith)))

-- an entry that is put back changes nothing
pub put_back : (area : List ℕ) (o p : ℕ) → put area o p (entry_at area o p) ≡ area
unfolding put entry_at
put_back area o p =
    sym (tab_made (length area) (byte area o p (entry_at area o p)) area refl (λ i l. cases i (eqb (i / 11) (entry_number o p)) refl))
  where
    cases : (i : ℕ) (t : Bool) → eqb (i / 11) (entry_number o p) ≡ t → get_or area i 0 ≡ pick t (get_or (entry_at area o p) (i % 11) 0) (get_or area i 0)
    cases i true e =
        let q : i / 11 ≡ entry_number o p = eqb-true (i / 11) (entry_number o p) e in
        let w : 11 * entry_number o p + i % 11 ≡ i = omega arith in
        sym (get_or_tab 11 (λ k. get_or area (11 * entry_number o p + k) 0) (i % 11) (omega arith) ∙ ap (λ (j : ℕ). get_or area j 0) w)
    cases i false e = refl

-- ---- the questions

-- another's place: only reading one that is lent is allowed
pub not_allowed : (caller owner : ℕ) (task : Task) (entry : List ℕ) → eqb caller owner ≡ false → lent_to caller entry ≡ false → allowed caller owner task entry ≡ false
not_allowed caller owner (Load header) entry other unlent = other
not_allowed caller owner (Read slice) entry other unlent = rw (other, unlent) (both_false (loaded entry))
not_allowed caller owner Drop entry other unlent = rw other (both_false (loaded entry))
not_allowed caller owner (Lend to) entry other unlent = rw other (both_false (loaded entry))

-- what an accepted call has passed
pub record Accepted (area : List ℕ) (call : Call) : Type 0 where
  pub caller : call.caller < 4
  pub owner : call.owner < 4
  pub loan : loan_right call.caller call.task ≡ true
  pub place : call.place < 4
  pub may : allowed call.caller call.owner call.task (entry_for area call) ≡ true
  pub header : header_asked call.task ≡ Done
  pub lengths : rack_lengths_right (length area) call.task ≡ true
  pub long : length area ≡ 176

area_long : (n : ℕ) (task : Task) → rack_lengths_right n task ≡ true → n ≡ 176
area_long n (Load header) e = eqb-true n 176 e
area_long n (Read slice) e = eqb-true n 176 (both_true (eqb n 176) (eqb (length slice) 10) e).0
area_long n Drop e = eqb-true n 176 e
area_long n (Lend to) e = eqb-true n 176 e

pub accepted : (area : List ℕ) (call : Call) → says area call ≡ Done → Accepted area call
unfolding says missions_right place_right
accepted area call e =
    let r23 = then_done (ask (missions_right call) 23 0) _ e in
    let r24 = then_done (ask (place_right call) 24 0) _ r23.1 in
    let r25 = then_done (ask (allowed call.caller call.owner call.task (entry_for area call)) 25 0) _ r24.1 in
    let rest = then_done (header_asked call.task) _ r25.1 in
    let lengths : rack_lengths_right (length area) call.task ≡ true = ask_done (rack_lengths_right (length area) call.task) 8 0 rest.1 in
    let m = both_true (both (ltb call.caller 4) (ltb call.owner 4)) (loan_right call.caller call.task) (ask_done (missions_right call) 23 0 r23.0) in
    let mine-and-other = both_true (ltb call.caller 4) (ltb call.owner 4) m.0 in
    record {
      caller = ltb-true call.caller 4 mine-and-other.0;
      owner = ltb-true call.owner 4 mine-and-other.1;
      loan = m.1;
      place = ltb-true call.place 4 (ask_done (place_right call) 24 0 r24.0);
      may = ask_done (allowed call.caller call.owner call.task (entry_for area call)) 25 0 r25.0;
      header = rest.0;
      lengths = lengths;
      long = area_long (length area) call.task lengths;
    }

-- two areas give the same answer where they are as long as each other and the place is allowed in both or in neither
pub says_same : (a b : List ℕ) (call : Call) → length a ≡ length b
    → (call.owner < 4 → call.place < 4
    → allowed call.caller call.owner call.task (entry_for a call) ≡ allowed call.caller call.owner call.task (entry_for b call))
    → says a call ≡ says b call
unfolding says missions_right place_right
says_same a b call long h =
    then_when (ask (missions_right call) 23 0) _ _ (λ e.
    then_when (ask (place_right call) 24 0) _ _ (λ f.
    let m = (both_true _ (loan_right call.caller call.task) (ask_done (missions_right call) 23 0 e)).0 in
    let o : call.owner < 4 = ltb-true call.owner 4 (both_true (ltb call.caller 4) (ltb call.owner 4) m).1 in
    let p : call.place < 4 = ltb-true call.place 4 (ask_done (place_right call) 24 0 f) in
    rw (h o p, long) refl))

-- ---- the area after a call

-- an accepted call that leaves the entry leaves the area
step_kept : (area : List ℕ) (call : Call)
    → (allowed call.caller call.owner call.task (entry_for area call) ≡ true → entry_after call.task (entry_for area call) ≡ entry_for area call)
    → after_call area call ≡ area
unfolding after_call
step_kept area call same = cases (says area call) refl
  where
    cases : (answer : Answer) → says area call ≡ answer → after answer (put area call.owner call.place (entry_after call.task (entry_for area call))) area ≡ area
    cases Done e = ap (put area call.owner call.place) (same (accepted area call e).may) ∙ put_back area call.owner call.place
    cases (No number place) e = refl

pub step_read : (area : List ℕ) (c o p : ℕ) (slice : List ℕ) → after_call area (call_of c o p (Read slice)) ≡ area
step_read area c o p slice = step_kept area (call_of c o p (Read slice)) (λ e. refl)

-- so does a call on another's place: it is refused, or it reads
pub step_other : (area : List ℕ) (call : Call) → (call.caller ≡ call.owner → ⊥) → after_call area call ≡ area
step_other area call n = step_kept area call (same call.task (entry_for area call))
  where
    same : (task : Task) (entry : List ℕ) → allowed call.caller call.owner task entry ≡ true → entry_after task entry ≡ entry
    same (Load header) entry e = absurd (n (eqb-true call.caller call.owner e))
    same (Read slice) entry e = refl
    same Drop entry e = absurd (n (eqb-true call.caller call.owner (both_true (loaded entry) _ e).1))
    same (Lend to) entry e = absurd (n (eqb-true call.caller call.owner (both_true (loaded entry) _ e).1))

pub step_refused : (area : List ℕ) (call : Call) (number place : ℕ) → says area call ≡ No number place → after_call area call ≡ area
unfolding after_call
step_refused area call number place e = rw e refl

pub length_step : (area : List ℕ) (call : Call) → length (after_call area call) ≡ length area
unfolding after_call
length_step area call = cases (says area call)
  where
    entry : List ℕ
    entry = entry_after call.task (entry_for area call)

    cases : (answer : Answer) → length (after answer (put area call.owner call.place entry) area) ≡ length area
    cases Done = length_put area call.owner call.place entry
    cases (No number place) = refl

-- no other entry changes
pub step_elsewhere : (area : List ℕ) (call : Call) (o p : ℕ) → p < 4 → ((call.owner ≡ o) × (call.place ≡ p) → ⊥) → entry_at (after_call area call) o p ≡ entry_at area o p
unfolding after_call
step_elsewhere area call o p h n = cases (says area call) refl
  where
    entry : List ℕ
    entry = entry_after call.task (entry_for area call)

    cases : (answer : Answer) → says area call ≡ answer → entry_at (after answer (put area call.owner call.place entry) area) o p ≡ entry_at area o p
    cases Done e = put_other area call.owner call.place entry o p (accepted area call e).place h n
    cases (No number place) e = refl

-- and that of an accepted call is the one that it makes
pub step_here : (area : List ℕ) (call : Call) → says area call ≡ Done → entry_at (after_call area call) call.owner call.place ≡ tab 11 (λ k. get_or (entry_after call.task (entry_for area call)) k 0)
unfolding after_call
step_here area call e =
    let a = accepted area call e in
    let o = a.owner in
    let p = a.place in
    let n = a.long in
    rw e (put_here area call.owner call.place (entry_after call.task (entry_for area call)) (omega arith))
