-- The proofs of card 10.
use mathlib.Core.Path.{◌≡◌, refl, ap, ◌∙◌}
use mathlib.Core.Bool.{Bool, true, false, not, ◌||◌}
use mathlib.Core.List.{List}
use mathlib.Core.Logic.{◌⊎◌, ⊎_elim}
use Prim.Native.Nat.{ℕ, ◌+◌, ◌*◌, ◌/◌, ◌%◌, ◌<◌}
use native.Mathlib.Omega.{arith}
use lib.Dec.{ltb, eqb}
use lib.ListN.{length, get_or, replicate, length-drop}
use lib.Seq.{get_or-drop}
use borrow.Author.Tests.{eqb-true, eq-eqb, ne_eqb}
use Rattle.bits.specs.Basics.{both}
use Rattle.bits.proofs.Laws.Table.{both_true, both_yes, either_left, either_right, length_tab, get_or_tab}
use Rattle.answers.specs.Answer.{place_of}
use Rattle.rack.specs.Rack.{entry_number, entry_at, status_in, loaded, lent_to, Call, call_of, missions_right, place_right, says}
use Rattle.rack.specs.Traces.{after_all, heard, lent, ever_lent, concerns, kept}
use Rattle.rack.proofs.Laws.Rack as entry_laws
use Rattle.rack.proofs.Laws.Places as place_laws
use Rattle.rack.proofs.Laws.Held as trace_laws
use Rattle.rack.proofs.Laws.Unseen as unseen_laws
use Rattle.rack.proofs.Laws.Answers as answer_laws
use Rattle.promises_rack.specs.Card10.{Card10, LoadedIs, HeaderIs, LentIs, CallIs, ToldIs, AfterAllIs, HeardIs, EverLentIs, KeptIs, ToldByThese, ToldSame, EmptyAsUnlent, EmptyAtStart, MayChange, MayRead, LoadedIsRead, LoadKeepsLoans, DropEmpties, LentToOne, OwnerLends, OthersStay, ReadChangesNothing, StrangerChangesNothing, RefusedChangesNothing, StatusMost, HeadersGood, ReadGood, LoadAsks, ReadAsks, DropAsks, LendAsks, LoadNumbers, ReadNumbers, DropNumbers, LendNumbers, RackNot17, Place0}

-- byte k of an entry
entry_byte : (area : List ℕ) (o p k : ℕ) → k < 11 → get_or (entry_at area o p) k 0 ≡ get_or area (11 * (4 * o + p) + k) 0
unfolding entry_at
entry_byte area o p k l = get_or_tab 11 (λ i. get_or area (11 * entry_number o p + i) 0) k l

status_is : (area : List ℕ) (o p : ℕ) → status_in (entry_at area o p) ≡ get_or area (11 * (4 * o + p)) 0
status_is area o p = entry_byte area o p 0 (omega arith) ∙ ap (λ (i : ℕ). get_or area i 0) (omega arith)

pub loaded_is : LoadedIs
unfolding loaded
loaded_is area o p = ap (λ (v : ℕ). not (eqb v 0)) (status_is area o p)

pub header_is : HeaderIs
unfolding entry_at
header_is area o p =
    let long : length (entry_at area o p) ≡ 11 = length_tab 11 (λ k. get_or area (11 * entry_number o p + k) 0) in
    let less = length-drop 1 (entry_at area o p) in (
      omega arith,
      λ k l. get_or-drop 1 (entry_at area o p) k 0 ∙ entry_byte area o p (1 + k) (omega arith) ∙ ap (λ (i : ℕ). get_or area i 0) (omega arith),
    )

pub lent_is : LentIs
unfolding lent lent_to
lent_is m area o p = ap (λ (v : ℕ). both (both (ltb o 4) (ltb p 4)) (both (ltb m 4) (eqb v (2 + m)))) (status_is area o p)

pub call_is : CallIs
call_is c o p task = (refl, refl, refl, refl)

pub told_is : ToldIs
told_is area c o p = (
  λ task. let z : place_of (says area (call_of c o p task)) ≡ 0 = answer_laws.says_place area (call_of c o p task) in omega arith,
  λ slice number place e. rw e refl,
  λ slice e. rw e refl,
)

pub after_all_is : AfterAllIs
unfolding after_all
after_all_is area = (refl, λ call t. refl)

pub heard_is : HeardIs
unfolding heard
heard_is m area = (refl, λ call t e. rw (eq-eqb call.caller m e) refl, λ call t n. rw (ne_eqb call.caller m n) refl)

pub ever_lent_is : EverLentIs
unfolding ever_lent
ever_lent_is m area o p = (refl, λ call t. refl)

-- whether a call concerns m, by what it is
concerned : (m : ℕ) (places : ℕ → ℕ → Bool) (call : Call) → (call.caller ≡ m) ⊎ ((call.caller ≡ call.owner) × (places call.owner call.place ≡ true)) → concerns m places call ≡ true
unfolding concerns
concerned m places call h =
    let own : Bool = eqb call.caller m in
    let owners : Bool = both (eqb call.caller call.owner) (places call.owner call.place) in
    ⊎_elim
    (λ (e : call.caller ≡ m). either_left own owners (eq-eqb call.caller m e))
    (λ (e : (call.caller ≡ call.owner) × (places call.owner call.place ≡ true)). either_right own owners (rw (eq-eqb call.caller call.owner e.0) e.1))
    h

unconcerned : (m : ℕ) (places : ℕ → ℕ → Bool) (call : Call) → (call.caller ≡ m → ⊥) → ((call.caller ≡ call.owner) × (places call.owner call.place ≡ true) → ⊥) → concerns m places call ≡ false
unfolding concerns
unconcerned m places call n k = rw (ne_eqb call.caller m n) (cases (both (eqb call.caller call.owner) (places call.owner call.place)) refl)
  where
    cases : (t : Bool) → both (eqb call.caller call.owner) (places call.owner call.place) ≡ t → false || t ≡ false
    cases true e =
        let b = both_true (eqb call.caller call.owner) (places call.owner call.place) e in
        absurd (k (eqb-true call.caller call.owner b.0, b.1))
    cases false e = refl

pub kept_is : KeptIs
unfolding kept
kept_is m places = (
  refl,
  λ call t h. rw (concerned m places call h) refl,
  λ call t n k. rw (unconcerned m places call n k) refl,
)

pub told_by_these : ToldByThese
told_by_these = unseen_laws.told_by_kept

pub told_same : ToldSame
told_same = unseen_laws.told_same

pub empty_as_unlent : EmptyAsUnlent
empty_as_unlent area c o p hc ho hp slice =
    (place_laws.empty_told area c o p hc ho hp slice, place_laws.unlent_told area c o p hc ho hp slice)

pub empty_at_start : EmptyAtStart
empty_at_start o p =
    let e : loaded (entry_at (replicate 176 0) o p) ≡ false = trace_laws.empty_start o p in
    (e, λ m. place_laws.empty_unlent m (replicate 176 0) o p e)

pub may_change : MayChange
may_change area c p hc hp long = (
  place_laws.may_load area c p hc hp long,
  place_laws.may_drop area c p hc hp long,
  place_laws.may_lend area c p hc hp long,
)

pub may_read : MayRead
may_read = place_laws.header_told

pub loaded_is_read : LoadedIsRead
loaded_is_read area o p header e t quiet c slice = trace_laws.loaded_read area o p header t c slice e quiet

pub load_keeps_loans : LoadKeepsLoans
load_keeps_loans = place_laws.load_keeps_loans

pub drop_empties : DropEmpties
drop_empties area c o p e = (place_laws.drop_empties area c o p e, place_laws.drop_ends_loan area c o p e)

pub lent_to_one : LentToOne
lent_to_one = place_laws.lend_lends

pub owner_lends : OwnerLends
owner_lends = place_laws.lent_how

pub others_stay : OthersStay
others_stay = entry_laws.step_elsewhere

pub read_changes_nothing : ReadChangesNothing
read_changes_nothing = entry_laws.step_read

pub stranger_changes_nothing : StrangerChangesNothing
stranger_changes_nothing = entry_laws.step_other

pub refused_changes_nothing : RefusedChangesNothing
refused_changes_nothing = entry_laws.step_refused

pub status_most : StatusMost
status_most t entry =
    let area : List ℕ = after_all (replicate 176 0) t in
    let o : ℕ = entry / 4 in
    let p : ℕ = entry % 4 in
    let few : status_in (entry_at area o p) < 6 = trace_laws.status_most t (replicate 176 0) (λ x y l. trace_laws.status_start x y) o p (omega arith) in
    let e : status_in (entry_at area o p) ≡ get_or area (11 * entry) 0 = status_is area o p ∙ ap (λ (i : ℕ). get_or area i 0) (omega arith) in
    omega arith

pub headers_good : HeadersGood
headers_good t o p ho hp e = trace_laws.held_good t (replicate 176 0) trace_laws.good_start o p ho hp e

pub read_good : ReadGood
read_good = trace_laws.read_good

pub load_asks : LoadAsks
unfolding says missions_right place_right
load_asks area c o p header = rw (both_yes (both (ltb c 4) (ltb o 4))) refl

pub read_asks : ReadAsks
unfolding says missions_right place_right
read_asks area c o p slice entry e = rw (e, both_yes (both (ltb c 4) (ltb o 4))) refl

pub drop_asks : DropAsks
unfolding says missions_right place_right
drop_asks area c o p = rw (both_yes (both (ltb c 4) (ltb o 4))) refl

pub lend_asks : LendAsks
unfolding says missions_right place_right
lend_asks area c o p to = refl

pub load_numbers_lem : LoadNumbers
load_numbers_lem = answer_laws.load_numbers_lem

pub read_numbers : ReadNumbers
read_numbers = answer_laws.read_numbers

pub drop_numbers : DropNumbers
drop_numbers = answer_laws.drop_numbers

pub lend_numbers : LendNumbers
lend_numbers = answer_laws.lend_numbers

pub rack_not_17 : RackNot17
rack_not_17 area call = (answer_laws.says_fits area call).listed

pub place_0 : Place0
place_0 = answer_laws.says_place

-- all of it
pub card_10 : Card10
card_10 = record {
  loaded_is = loaded_is;
  header_is = header_is;
  lent_is = lent_is;
  call_is = call_is;
  told_is = told_is;
  after_all_is = after_all_is;
  heard_is = heard_is;
  ever_lent_is = ever_lent_is;
  kept_is = kept_is;
  told_by_these = told_by_these;
  told_same = told_same;
  empty_as_unlent = empty_as_unlent;
  empty_at_start = empty_at_start;
  may_change = may_change;
  may_read = may_read;
  loaded_is_read = loaded_is_read;
  load_keeps_loans = load_keeps_loans;
  drop_empties = drop_empties;
  lent_to_one = lent_to_one;
  owner_lends = owner_lends;
  others_stay = others_stay;
  read_changes_nothing = read_changes_nothing;
  stranger_changes_nothing = stranger_changes_nothing;
  refused_changes_nothing = refused_changes_nothing;
  status_most = status_most;
  headers_good = headers_good;
  read_good = read_good;
  load_asks = load_asks;
  read_asks = read_asks;
  drop_asks = drop_asks;
  lend_asks = lend_asks;
  load_numbers_lem = load_numbers_lem;
  read_numbers = read_numbers;
  drop_numbers = drop_numbers;
  lend_numbers = lend_numbers;
  rack_not_17 = rack_not_17;
  place_0 = place_0;
}
