-- What a mission is told comes from its own places and from those that were lent to it: a call of the others elsewhere changes no entry that the
-- mission is ever told of, so that all such calls can be left out.
use mathlib.Core.Path.{◌≡◌, refl, sym, ap, ap₂, ◌∙◌}
use mathlib.Core.Bool.{Bool, true, false, ◌||◌}
use mathlib.Core.List.{List, [], ◌∷◌}
use mathlib.Core.Logic.{⊎_elim}
use Prim.Native.Nat.{ℕ, ◌<◌}
use lib.Dec.{ltb, eqb}
use lib.ListN.{length, get_or}
use borrow.Author.Tests.{ltb-true, lt-ltb, eqb-true, eqb-false, eq-eqb, ne_eqb}
use Rattle.bits.specs.Basics.{pick, tab, both}
use Rattle.bits.proofs.Laws.Choice.{eq_or_ne}
use Rattle.bits.proofs.Laws.Table.{true_false, both_true, either_left, either_right, either_true, either_false}
use Rattle.answers.specs.Answer.{Answer, Done, No, code_of}
use Rattle.rack.specs.Rack.{entry_at, header_in, lent_to, Task, Load, Read, Drop, Lend, Call, allowed, entry_for, says, entry_after, after_call, handed, Told, told_of}
use Rattle.rack.specs.Traces.{heard, lent, ever_lent, concerns, kept}
use Rattle.rack.proofs.Laws.Rack.{not_allowed, accepted, says_same, step_other, step_refused, length_step, step_elsewhere, step_here, same_or_other}

handed_same : (task : Task) (answer : Answer) (e f : List ℕ) → (answer ≡ Done → e ≡ f) → handed task answer e ≡ handed task answer f
handed_same (Load header) answer e f h = refl
handed_same (Read slice) Done e f h = ap header_in (h refl)
handed_same (Read slice) (No number place) e f h = refl
handed_same Drop answer e f h = refl
handed_same (Lend to) answer e f h = refl

-- a place that is lent at first is lent at some time
ever_first : (m : ℕ) (area : List ℕ) (calls : List Call) (o p : ℕ) → lent m area o p ≡ true → ever_lent m area calls o p ≡ true
unfolding ever_lent
ever_first m area [] o p e = e
ever_first m area (call ∷ calls) o p e = either_left (lent m area o p) (ever_lent m (after_call area call) calls o p) e

-- only places of the rack are
lent_rack : (m : ℕ) (area : List ℕ) (o p : ℕ) → lent m area o p ≡ true → (o < 4) × (p < 4)
unfolding lent
lent_rack m area o p e =
    let b = both_true (ltb o 4) (ltb p 4) (both_true (both (ltb o 4) (ltb p 4)) (lent_to m (entry_at area o p)) e).0 in
    (ltb-true o 4 b.0, ltb-true p 4 b.1)

pub ever_rack : (m : ℕ) (area : List ℕ) (calls : List Call) (o p : ℕ) → ever_lent m area calls o p ≡ true → (o < 4) × (p < 4)
unfolding ever_lent
ever_rack m area [] o p e = lent_rack m area o p e
ever_rack m area (call ∷ calls) o p e = cases (lent m area o p) refl (ever_rack m (after_call area call) calls o p) e
  where
    cases : (t : Bool) → lent m area o p ≡ t → (ever_lent m (after_call area call) calls o p ≡ true → (o < 4) × (p < 4))
        → t || ever_lent m (after_call area call) calls o p ≡ true → (o < 4) × (p < 4)
    cases true l rest q = lent_rack m area o p l
    cases false l rest q = rest q

module _ (m : ℕ) (places : ℕ → ℕ → Bool) where
  -- what m may be told of: its own places, and those of the set
  abbrev pub seen : ℕ → ℕ → Bool
  seen o p = eqb o m || places o p

  -- areas that are the same there
  pub record Same (a b : List ℕ) : Type 0 where
    pub long : length a ≡ length b
    pub entries : (o p : ℕ) → o < 4 → p < 4 → seen o p ≡ true → entry_at a o p ≡ entry_at b o p

  -- no other place is lent to m
  abbrev pub Quiet : List ℕ → Type 0
  Quiet area = (o p : ℕ) → lent m area o p ≡ true → seen o p ≡ true

  same_refl : (a : List ℕ) → Same a a
  same_refl a = record { long = refl; entries = λ o p ho hp s. refl }

  unlent : (area : List ℕ) (o p : ℕ) → Quiet area → o < 4 → p < 4 → seen o p ≡ false → lent_to m (entry_at area o p) ≡ false
  unfolding lent
  unlent area o p quiet ho hp s = cases (lent_to m (entry_at area o p)) refl
    where
      cases : (t : Bool) → lent_to m (entry_at area o p) ≡ t → t ≡ false
      cases true e = absurd (true_false (seen o p) (quiet o p (rw (lt-ltb o 4 ho, lt-ltb p 4 hp) e)) s)
      cases false e = refl

  -- ---- what m is told

  module _ (a b : List ℕ) (call : Call) (same : Same a b) (qa : Quiet a) (qb : Quiet b) (mine : call.caller ≡ m) where
    refused_unseen : (area : List ℕ) → Quiet area → call.owner < 4 → call.place < 4 → seen call.owner call.place ≡ false
        → allowed call.caller call.owner call.task (entry_for area call) ≡ false
    refused_unseen area quiet ho hp s =
        let no : eqb call.owner m ≡ false = (either_false (eqb call.owner m) (places call.owner call.place) s).0 in
        let other : eqb call.caller call.owner ≡ false = ne_eqb call.caller call.owner (λ e. eqb-false call.owner m no (sym e ∙ mine)) in
        let none : lent_to call.caller (entry_for area call) ≡ false = rw mine (unlent area call.owner call.place quiet ho hp s) in
        not_allowed call.caller call.owner call.task (entry_for area call) other none

    allowed_alike : call.owner < 4 → call.place < 4
        → allowed call.caller call.owner call.task (entry_for a call) ≡ allowed call.caller call.owner call.task (entry_for b call)
    allowed_alike ho hp = cases (seen call.owner call.place) refl
      where
        cases : (t : Bool) → seen call.owner call.place ≡ t
            → allowed call.caller call.owner call.task (entry_for a call) ≡ allowed call.caller call.owner call.task (entry_for b call)
        cases true s = ap (allowed call.caller call.owner call.task) (same.entries call.owner call.place ho hp s)
        cases false s = refused_unseen a qa ho hp s ∙ sym (refused_unseen b qb ho hp s)

    says_alike : says a call ≡ says b call
    says_alike = says_same a b call same.long allowed_alike

    entry_alike : says a call ≡ Done → entry_for a call ≡ entry_for b call
    entry_alike e = cases (seen call.owner call.place) refl
      where
        cases : (t : Bool) → seen call.owner call.place ≡ t → entry_for a call ≡ entry_for b call
        cases true s = let k = accepted a call e in same.entries call.owner call.place k.owner k.place s
        cases false s =
            let k = accepted a call e in
            absurd (true_false (allowed call.caller call.owner call.task (entry_for a call)) k.may (refused_unseen a qa k.owner k.place s))

    told_alike : told_of a call ≡ told_of b call
    told_alike =
        let slices : handed call.task (says a call) (entry_for a call) ≡ handed call.task (says b call) (entry_for b call) =
        handed_same call.task (says a call) (entry_for a call) (entry_for b call) entry_alike ∙ ap (λ (x : Answer). handed call.task x (entry_for b call)) says_alike in
        ap₂ (λ (c : ℕ) (x : List ℕ). record { code = c; slice = x }) (ap code_of says_alike) slices

  -- ---- what a call does

  not_mine : (call : Call) → concerns m places call ≡ false → eqb call.caller m ≡ false
  unfolding concerns
  not_mine call c = (either_false (eqb call.caller m) (both (eqb call.caller call.owner) (places call.owner call.place)) c).0

  -- a place that a call of its owner changes is seen, if the call concerns m
  seen_changed : (call : Call) → concerns m places call ≡ true → call.caller ≡ call.owner → seen call.owner call.place ≡ true
  unfolding concerns
  seen_changed call c own =
      let o : ℕ = call.owner in
      let t : Bool = places o call.place in
      ⊎_elim
      (λ (e : o ≡ m). either_left (eqb o m) t (eq-eqb o m e))
      (λ (n : o ≡ m → ⊥).
      let b = either_true (eqb call.caller m) (both (eqb call.caller o) t) c (λ e. n (sym own ∙ eqb-true call.caller m e)) in
      either_right (eqb o m) t (both_true (eqb call.caller o) t b).1)
      (eq_or_ne o m)

  -- and unseen, if it does not
  unseen_changed : (call : Call) → concerns m places call ≡ false → call.caller ≡ call.owner → seen call.owner call.place ≡ false
  unfolding concerns
  unseen_changed call c own =
      let o : ℕ = call.owner in
      let b = either_false (eqb call.caller m) (both (eqb call.caller o) (places o call.place)) c in
      let other : eqb o m ≡ false = ap (λ (x : ℕ). eqb x m) (sym own) ∙ b.0 in
      rw other (rw (eq-eqb call.caller o own) at b.1)

  -- a call that concerns m does the same to areas that are the same
  same_step : (a b : List ℕ) (call : Call) → concerns m places call ≡ true → Same a b → Same (after_call a call) (after_call b call)
  same_step a b call c same =
      ⊎_elim
      (λ (own : call.caller ≡ call.owner).
      let s = seen_changed call c own in
      let e = says_same a b call same.long (λ ho hp. ap (allowed call.caller call.owner call.task) (same.entries call.owner call.place ho hp s)) in
      cases s (says a call) refl (sym e))
      (λ (n : call.caller ≡ call.owner → ⊥). rw (step_other a call n, step_other b call n) same)
      (eq_or_ne call.caller call.owner)
    where
      cases : seen call.owner call.place ≡ true → (answer : Answer) → says a call ≡ answer → says b call ≡ says a call → Same (after_call a call) (after_call b call)
      cases s Done e f =
          let k = accepted a call e in
          let before : entry_for a call ≡ entry_for b call = same.entries call.owner call.place k.owner k.place s in
          record {
            long = length_step a call ∙ same.long ∙ sym (length_step b call);
            entries = λ o p ho hp t. ⊎_elim
                (λ (r : (call.owner ≡ o) × (call.place ≡ p)).
                rw (← r.0, ← r.1)
                (step_here a call e ∙ ap (λ (x : List ℕ). tab 11 (λ k. get_or (entry_after call.task x) k 0)) before ∙ sym (step_here b call (f ∙ e))))
                (λ (n : (call.owner ≡ o) × (call.place ≡ p) → ⊥).
                step_elsewhere a call o p hp n ∙ same.entries o p ho hp t ∙ sym (step_elsewhere b call o p hp n))
                (same_or_other call.owner call.place o p);
          }
      cases s (No number place) e f = rw (step_refused a call number place e, step_refused b call number place (f ∙ e)) same

  -- one that does not changes nothing that is seen
  same_unseen : (a b : List ℕ) (call : Call) → concerns m places call ≡ false → Same a b → Same (after_call a call) b
  same_unseen a b call c same =
      ⊎_elim
      (λ (own : call.caller ≡ call.owner).
      let u = unseen_changed call c own in
      record {
        long = length_step a call ∙ same.long;
        entries = λ o p ho hp t.
            step_elsewhere a call o p hp (λ r. true_false (seen o p) t (rw (← r.0, ← r.1) u)) ∙ same.entries o p ho hp t;
      })
      (λ (n : call.caller ≡ call.owner → ⊥). rw (step_other a call n) same)
      (eq_or_ne call.caller call.owner)

  -- and one that does lends m no other place
  quiet_step : (area : List ℕ) (call : Call) → concerns m places call ≡ true → Quiet area → Quiet (after_call area call)
  unfolding lent
  quiet_step area call c quiet o p e =
      ⊎_elim
      (λ (own : call.caller ≡ call.owner).
      ⊎_elim
      (λ (r : (call.owner ≡ o) × (call.place ≡ p)). rw (← r.0, ← r.1) (seen_changed call c own))
      (λ (n : (call.owner ≡ o) × (call.place ≡ p) → ⊥).
      let small : p < 4 = (lent_rack m (after_call area call) o p e).1 in
      quiet o p (rw (step_elsewhere area call o p small n) at e))
      (same_or_other call.owner call.place o p))
      (λ (n : call.caller ≡ call.owner → ⊥). quiet o p (rw (step_other area call n) at e))
      (eq_or_ne call.caller call.owner)

  -- ---- traces

  -- the places that are lent to m at some time are of the set
  abbrev Covered : List ℕ → List Call → Type 0
  Covered area calls = (o p : ℕ) → ever_lent m area calls o p ≡ true → places o p ≡ true

  covered_first : (area : List ℕ) (calls : List Call) → Covered area calls → Quiet area
  covered_first area calls h o p e = either_right (eqb o m) (places o p) (h o p (ever_first m area calls o p e))

  covered_rest : (area : List ℕ) (call : Call) (calls : List Call) → Covered area (call ∷ calls) → Covered (after_call area call) calls
  unfolding ever_lent
  covered_rest area call calls h o p e = h o p (either_right (lent m area o p) (ever_lent m (after_call area call) calls o p) e)

  -- the calls that do not concern m can be left out
  pub only_kept : (calls : List Call) (a b : List ℕ) → Same a b → Quiet b → Covered a calls → heard m a calls ≡ heard m b (kept m places calls)
  unfolding heard kept
  only_kept [] a b same quiet covered = refl
  only_kept (call ∷ calls) a b same quiet covered =
      cases (concerns m places call) refl (only_kept calls (after_call a call) (after_call b call)) (only_kept calls (after_call a call) b)
    where
      -- told here, and what follows
      on : List ℕ → List Call → List Told
      on area rest = pick (eqb call.caller m) (told_of area call ∷ heard m (after_call area call) rest) (heard m (after_call area call) rest)

      rest : Covered (after_call a call) calls
      rest = covered_rest a call calls covered

      told : heard m (after_call a call) calls ≡ heard m (after_call b call) (kept m places calls) → (t : Bool) → eqb call.caller m ≡ t
          → pick t (told_of a call ∷ heard m (after_call a call) calls) (heard m (after_call a call) calls)
          ≡ pick t (told_of b call ∷ heard m (after_call b call) (kept m places calls)) (heard m (after_call b call) (kept m places calls))
      told ih true e =
          ap₂ (λ (x : Told) (xs : List Told). x ∷ xs) (told_alike a b call same (covered_first a (call ∷ calls) covered) quiet (eqb-true call.caller m e)) ih
      told ih false e = ih

      cases : (t : Bool) → concerns m places call ≡ t
          → (Same (after_call a call) (after_call b call) → Quiet (after_call b call) → Covered (after_call a call) calls → heard m (after_call a call) calls ≡ heard m (after_call b call) (kept m places calls))
          → (Same (after_call a call) b → Quiet b → Covered (after_call a call) calls → heard m (after_call a call) calls ≡ heard m b (kept m places calls))
          → on a calls ≡ heard m b (pick t (call ∷ kept m places calls) (kept m places calls))
      cases true c with_it without = told (with_it (same_step a b call c same) (quiet_step b call c quiet) rest) (eqb call.caller m) refl
      cases false c with_it without =
          rw (not_mine call c) (without (same_unseen a b call c same) quiet rest)

-- what m is told is what it would be told of the calls that concern it alone
pub told_by_kept : (m : ℕ) (area : List ℕ) (t : List Call) → heard m area t ≡ heard m area (kept m (ever_lent m area t) t)
told_by_kept m area t =
    let places : ℕ → ℕ → Bool = ever_lent m area t in
    only_kept m places t area area (same_refl m places area) (covered_first m places area t (λ o p l. l)) (λ o p l. l)

-- so it stays, if the others' calls to all places change that are never lent to m, and none of those is lent to m then
pub told_same : (m : ℕ) (area : List ℕ) (t u : List Call) → kept m (ever_lent m area t) t ≡ kept m (ever_lent m area t) u
    → ((o p : ℕ) → ever_lent m area u o p ≡ true → ever_lent m area t o p ≡ true) → heard m area t ≡ heard m area u
told_same m area t u e h =
    let places : ℕ → ℕ → Bool = ever_lent m area t in
    told_by_kept m area t
    ∙ ap (heard m area) e
    ∙ sym (only_kept m places u area area (same_refl m places area) (covered_first m places area t (λ o p l. l)) h)
