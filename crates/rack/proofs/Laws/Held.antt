-- Over calls of all missions: a place holds what its owner loaded last, and from the empty rack on every header in it has passed the questions.
use mathlib.Core.Path.{◌≡◌, refl, sym, ap, ap₂, ◌∙◌}
use mathlib.Core.Bool.{Bool, true, false, not, ◌||◌}
use mathlib.Core.List.{List, [], ◌∷◌, ◌++◌}
use mathlib.Core.Logic.{◌⊎◌, ⊎_elim}
use Prim.Native.Nat.{ℕ, ◌+◌, ◌*◌, ◌≤◌, ◌<◌}
use native.Mathlib.Omega.{arith}
use lib.Dec.{ltb, eqb}
use lib.ListN.{length, get_or, replicate, get_or-replicate, get_or-eq_default}
use borrow.Author.Tests.{ltb-true, ne_eqb}
use Rattle.bits.specs.Basics.{pick}
use Rattle.bits.proofs.Laws.Choice.{lt_or_le}
use Rattle.bits.proofs.Laws.Table.{true_false, both_true, tab_made}
use Rattle.answers.specs.Answer.{Answer, Done, No}
use Rattle.header_questions.specs.Questions.{header_says}
use Rattle.rack.proofs.Laws.Rack.{empty_rack, accepted, step_refused, length_step, step_elsewhere, same_or_other}
use Rattle.rack.specs.Rack.{entry_number, entry_at, status_in, header_in, loaded, lent_to, Task, Load, Read, Drop, Lend, Call, call_of, loan_right, allowed, header_asked, entry_for, says, filled, entry_after, after_call, told_of}
use Rattle.rack.specs.Traces.{after_all, lent}
use Rattle.rack.proofs.Laws.Places.{step_made, header_told}

pub length_all : (calls : List Call) (area : List ℕ) → length (after_all area calls) ≡ length area
unfolding after_all
length_all [] area = refl
length_all (call ∷ calls) area = length_all calls (after_call area call) ∙ length_step area call

-- ---- headers

-- two areas hold the same header at a place, or none
pub record Holds (a b : List ℕ) (o p : ℕ) : Type 0 where
  pub header : header_in (entry_at a o p) ≡ header_in (entry_at b o p)
  pub there : loaded (entry_at a o p) ≡ loaded (entry_at b o p)

holds_same : (a b : List ℕ) (o p : ℕ) → entry_at a o p ≡ entry_at b o p → Holds a b o p
holds_same a b o p e = record { header = ap header_in e; there = ap loaded e }

-- no accepted call among these loads or drops place p of mission o
abbrev pub Untouched : List ℕ → ℕ → ℕ → List Call → Type 0
Untouched area o p calls =
    (u v : List Call) (c : ℕ)
    → ((header : List ℕ) → calls ≡ u ++ call_of c o p (Load header) ∷ v → says (after_all area u) (call_of c o p (Load header)) ≡ Done → ⊥)
    × (calls ≡ u ++ call_of c o p Drop ∷ v → says (after_all area u) (call_of c o p Drop) ≡ Done → ⊥)

-- a loan or a reading leaves it
loan_holds : (c o : ℕ) (task : Task) (entry : List ℕ) → ((header : List ℕ) → task ≡ Load header → ⊥) → (task ≡ Drop → ⊥) → allowed c o task entry ≡ true
    → (header_in (entry_after task entry) ≡ header_in entry) × (loaded (entry_after task entry) ≡ loaded entry)
unfolding loaded
loan_holds c o (Load header) entry load drop may = absurd (load header refl)
loan_holds c o (Read slice) entry load drop may = (refl, refl)
loan_holds c o Drop entry load drop may = absurd (drop refl)
loan_holds c o (Lend to) entry load drop may =
    (refl, ap not (ne_eqb (2 + to) 0 (λ q. omega arith)) ∙ sym (both_true (loaded entry) (eqb c o) may).0)

-- so an accepted call leaves it that neither loads nor drops there, and so does every refused one
step_holds : (area : List ℕ) (call : Call) (o p : ℕ) → p < 4
    → ((call.owner ≡ o) × (call.place ≡ p) → says area call ≡ Done → ((header : List ℕ) → call.task ≡ Load header → ⊥) × (call.task ≡ Drop → ⊥))
    → Holds (after_call area call) area o p
step_holds area call o p hp quiet =
    ⊎_elim
    (λ (r : (call.owner ≡ o) × (call.place ≡ p)). here r (says area call) refl)
    (λ (n : (call.owner ≡ o) × (call.place ≡ p) → ⊥). holds_same (after_call area call) area o p (step_elsewhere area call o p hp n))
    (same_or_other call.owner call.place o p)
  where
    here : (call.owner ≡ o) × (call.place ≡ p) → (answer : Answer) → says area call ≡ answer → Holds (after_call area call) area o p
    here r Done d =
        let t = quiet r d in
        let k = loan_holds call.caller call.owner call.task (entry_for area call) t.0 t.1 (accepted area call d).may in
        let made : entry_at (after_call area call) o p ≡ entry_after call.task (entry_for area call) =
        ap₂ (λ (x y : ℕ). entry_at (after_call area call) x y) (sym r.0) (sym r.1) ∙ step_made area call d in
        let old : entry_for area call ≡ entry_at area o p = ap₂ (entry_at area) r.0 r.1 in
        record { header = ap header_in made ∙ k.0 ∙ ap header_in old; there = ap loaded made ∙ k.1 ∙ ap loaded old }
    here r (No number place) d = holds_same (after_call area call) area o p (ap (λ (a : List ℕ). entry_at a o p) (step_refused area call number place d))

-- the call with its owner, place and task by other names
call_is : (call : Call) (o p : ℕ) (task : Task) → (call.owner ≡ o) × (call.place ≡ p) → call.task ≡ task → call ≡ call_of call.caller o p task
call_is call o p task r e =
    ap (λ (x : ℕ). call_of call.caller x call.place call.task) r.0
    ∙ ap (λ (x : ℕ). call_of call.caller o x call.task) r.1
    ∙ ap (λ (x : Task). call_of call.caller o p x) e

pub all_holds : (calls : List Call) (area : List ℕ) (o p : ℕ) → p < 4 → Untouched area o p calls → Holds (after_all area calls) area o p
unfolding after_all
all_holds [] area o p hp quiet = record { header = refl; there = refl }
all_holds (call ∷ calls) area o p hp quiet =
    let s = step_holds area call o p hp (λ r d. (
      λ header e.
          let q = call_is call o p (Load header) r e in
          (quiet [] calls call.caller).0 header (ap (λ (x : Call). x ∷ calls) q) (ap (says area) (sym q) ∙ d),
      λ e.
          let q = call_is call o p Drop r e in
          (quiet [] calls call.caller).1 (ap (λ (x : Call). x ∷ calls) q) (ap (says area) (sym q) ∙ d),
    )) in
    let r = all_holds calls (after_call area call) o p hp (λ u v c. (
      λ header e d. (quiet (call ∷ u) v c).0 header (ap (λ (x : List Call). call ∷ x) e) d,
      λ e d. (quiet (call ∷ u) v c).1 (ap (λ (x : List Call). call ∷ x) e) d,
    )) in
    record { header = r.header ∙ s.header; there = r.there ∙ s.there }

-- what the owner loaded is what it reads, and each mission that the place is lent to, until a load or drop there is accepted
pub loaded_read : (area : List ℕ) (o p : ℕ) (header : List ℕ) (calls : List Call) (c : ℕ) (slice : List ℕ)
    → says area (call_of o o p (Load header)) ≡ Done → Untouched (after_call area (call_of o o p (Load header))) o p calls → c < 4 → length slice ≡ 10
    → (c ≡ o) ⊎ (lent c (after_all (after_call area (call_of o o p (Load header))) calls) o p ≡ true)
    → told_of (after_all (after_call area (call_of o o p (Load header))) calls) (call_of c o p (Read slice)) ≡ record { code = 0; slice = header }
unfolding loaded
loaded_read area o p header calls c slice e quiet hc room may =
    let call : Call = call_of o o p (Load header) in
    let end : List ℕ = after_all (after_call area call) calls in
    let a = accepted area call e in
    let made = step_made area call e in
    let h = all_holds calls (after_call area call) o p a.place quiet in
    let there : loaded (entry_at end o p) ≡ true = h.there ∙ ap loaded made ∙ there_now (entry_at area o p) in
    let long : length end ≡ 176 = length_all calls (after_call area call) ∙ length_step area call ∙ a.long in
    header_told end c o p hc a.owner a.place slice there may long room
    ∙ ap (λ (x : List ℕ). record { code = 0; slice = x }) (h.header ∙ ap header_in made)
  where
    there_now : (entry : List ℕ) → loaded (filled (status_in entry) ∷ header) ≡ true
    there_now entry = cases (eqb (status_in entry) 0) refl
      where
        cases : (t : Bool) → eqb (status_in entry) 0 ≡ t → not (eqb (pick t 1 (status_in entry)) 0) ≡ true
        cases true q = refl
        cases false q = ap not q

-- ---- the empty rack

pub empty_entry : (o p : ℕ) → entry_at empty_rack o p ≡ replicate 11 0
unfolding entry_at
empty_entry o p =
    sym (tab_made 11 (λ k. get_or empty_rack (11 * entry_number o p + k) 0) (replicate 11 0) refl (λ k l.
    get_or-replicate 11 k 0 0 l ∙ sym (zero_at_lem (11 * entry_number o p + k))))
  where
    zero_at_lem : (i : ℕ) → get_or empty_rack i 0 ≡ 0
    zero_at_lem i = ⊎_elim (λ (l : i < 176). get_or-replicate 176 i 0 0 l) (λ (l : 176 ≤ i). get_or-eq_default empty_rack 0 l) (lt_or_le i 176)

pub empty_start : (o p : ℕ) → loaded (entry_at empty_rack o p) ≡ false
unfolding loaded
empty_start o p = ap loaded (empty_entry o p)

-- ---- the status bytes

-- what an accepted call writes is 0, 1 or 2 to 5
status_task : (c : ℕ) (task : Task) (entry : List ℕ) → loan_right c task ≡ true → status_in entry < 6 → status_in (entry_after task entry) < 6
status_task c (Load header) entry loan h = cases (eqb (status_in entry) 0)
  where
    cases : (t : Bool) → pick t 1 (status_in entry) < 6
    cases true = omega arith
    cases false = h
status_task c (Read slice) entry loan h = h
status_task c Drop entry loan h = omega arith
status_task c (Lend to) entry loan h = let l : to < 4 = ltb-true to 4 (both_true (ltb to 4) (not (eqb to c)) loan).0 in omega arith

status_step : (area : List ℕ) (call : Call) → ((o p : ℕ) → p < 4 → status_in (entry_at area o p) < 6) → (o p : ℕ) → p < 4 → status_in (entry_at (after_call area call) o p) < 6
status_step area call h o p hp = cases (says area call) refl
  where
    cases : (answer : Answer) → says area call ≡ answer → status_in (entry_at (after_call area call) o p) < 6
    cases Done d =
        let a = accepted area call d in
        ⊎_elim
        (λ (r : (call.owner ≡ o) × (call.place ≡ p)).
        let made : entry_at (after_call area call) o p ≡ entry_after call.task (entry_for area call) =
        ap₂ (λ (x y : ℕ). entry_at (after_call area call) x y) (sym r.0) (sym r.1) ∙ step_made area call d in
        rw made (status_task call.caller call.task (entry_for area call) a.loan (h call.owner call.place a.place)))
        (λ (n : (call.owner ≡ o) × (call.place ≡ p) → ⊥). rw (step_elsewhere area call o p hp n) (h o p hp))
        (same_or_other call.owner call.place o p)
    cases (No number place) d = rw (step_refused area call number place d) (h o p hp)

-- so from the empty rack on there is no other
pub status_most : (calls : List Call) (area : List ℕ) → ((o p : ℕ) → p < 4 → status_in (entry_at area o p) < 6) → (o p : ℕ) → p < 4 → status_in (entry_at (after_all area calls) o p) < 6
unfolding after_all
status_most [] area h = h
status_most (call ∷ calls) area h = status_most calls (after_call area call) (status_step area call h)

pub status_start : (o p : ℕ) → status_in (entry_at empty_rack o p) < 6
status_start o p = rw (empty_entry o p) (omega arith)

-- ---- the headers

-- every header in the rack has passed
abbrev pub Good : List ℕ → Type 0
Good area = (o p : ℕ) → o < 4 → p < 4 → loaded (entry_at area o p) ≡ true → header_says (header_in (entry_at area o p)) ≡ Done

good_task : (c o : ℕ) (task : Task) (entry : List ℕ) → header_asked task ≡ Done → allowed c o task entry ≡ true
    → (loaded entry ≡ true → header_says (header_in entry) ≡ Done) → loaded (entry_after task entry) ≡ true → header_says (header_in (entry_after task entry)) ≡ Done
unfolding loaded
good_task c o (Load header) entry asked may good e = asked
good_task c o (Read slice) entry asked may good e = good e
good_task c o Drop entry asked may good e = absurd (true_false true refl (sym e))
good_task c o (Lend to) entry asked may good e = good (both_true (loaded entry) (eqb c o) may).0

good_step : (area : List ℕ) (call : Call) → Good area → Good (after_call area call)
good_step area call good = cases (says area call) refl
  where
    cases : (answer : Answer) → says area call ≡ answer → Good (after_call area call)
    cases Done d o p ho hp e =
        let a = accepted area call d in
        ⊎_elim
        (λ (r : (call.owner ≡ o) × (call.place ≡ p)).
        let made : entry_at (after_call area call) o p ≡ entry_after call.task (entry_for area call) =
        ap₂ (λ (x y : ℕ). entry_at (after_call area call) x y) (sym r.0) (sym r.1) ∙ step_made area call d in
        ap (λ (x : List ℕ). header_says (header_in x)) made
        ∙ good_task call.caller call.owner call.task (entry_for area call) a.header a.may (good call.owner call.place a.owner a.place) (ap loaded (sym made) ∙ e))
        (λ (n : (call.owner ≡ o) × (call.place ≡ p) → ⊥).
        let same = step_elsewhere area call o p hp n in
        ap (λ (x : List ℕ). header_says (header_in x)) same ∙ good o p ho hp (ap loaded (sym same) ∙ e))
        (same_or_other call.owner call.place o p)
    cases (No number place) d o p ho hp e =
        let same = step_refused area call number place d in
        ap (λ (a : List ℕ). header_says (header_in (entry_at a o p))) same ∙ good o p ho hp (ap (λ (a : List ℕ). loaded (entry_at a o p)) (sym same) ∙ e)

pub held_good : (calls : List Call) (area : List ℕ) → Good area → Good (after_all area calls)
unfolding after_all
held_good [] area good = good
held_good (call ∷ calls) area good = held_good calls (after_call area call) (good_step area call good)

pub good_start : Good empty_rack
good_start o p ho hp e = absurd (true_false (loaded (entry_at empty_rack o p)) e (empty_start o p))

-- so has every header that is read
pub read_good : (calls : List Call) (c o p : ℕ) (slice : List ℕ) → says (after_all empty_rack calls) (call_of c o p (Read slice)) ≡ Done
    → header_says (told_of (after_all empty_rack calls) (call_of c o p (Read slice))).slice ≡ Done
read_good calls c o p slice e =
    let area : List ℕ = after_all empty_rack calls in
    let a = accepted area (call_of c o p (Read slice)) e in
    rw e (held_good calls empty_rack good_start o p a.owner a.place (both_true (loaded (entry_at area o p)) (eqb c o || lent_to c (entry_at area o p)) a.may).0)
