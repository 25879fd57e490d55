-- The proofs of the search from a given slot on.
use mathlib.Core.Path.{◌≡◌, refl, sym, ap, ap₂, ◌∙◌}
use mathlib.Core.List.{List}
use Prim.Native.Nat.{ℕ, ◌*◌}
use Rattle.answers.specs.Answer.{Answer, Done, code_with}
use Rattle.plan.specs.Plan.{plan_in}
use Rattle.capture_search.specs.Search.{first_fit_from, find_lengths_right, slot_says, find_from_says, find_from_code}
use Rattle.capture_search.proofs.Laws.Theorems as search_theorems
use Rattle.capture_cut.proofs.Laws.Theorems as cut_theorems
use Rattle.promises_runs.specs.FindFrom.{FindFrom, FindFromAsks, FindFromCodes, FromSlot0, EarliestFrom, FoundFrom, FoundBetween, RunFoundFrom, NoneFitsFrom, NoneFromIs19, BeyondIs19}

-- C gets the slot of an acceptance as the place
coded : (header marker capture : List ℕ) (from s : ℕ) → (find_from_says header marker capture from ≡ Done) × (first_fit_from (plan_in header marker) capture from ≡ s)
    → find_from_code header marker capture from ≡ s * 256
coded header marker capture from s e = ap₂ code_with e.0 e.1

pub find_from_asks : FindFromAsks
unfolding find_from_says find_lengths_right slot_says
find_from_asks header marker capture from = refl

pub find_from_codes : FindFromCodes
find_from_codes header marker capture from =
    let s : ℕ = first_fit_from (plan_in header marker) capture from in
    (λ e. ap (λ (a : Answer). code_with a s) e, λ number place e. ap (λ (a : Answer). code_with a s) e)

pub from_slot_0 : FromSlot0
from_slot_0 header marker capture = refl

pub earliest_from : EarliestFrom
earliest_from header marker capture from e s es = rw es (search_theorems.earliest_from header marker capture from e)

pub found_from : FoundFrom
found_from header marker capture from e m h s a at none =
    coded header marker capture from s (search_theorems.found_from header marker capture from e m h s a at none)

pub found_between : FoundBetween
found_between header marker capture from e x a l =
    let s : ℕ = first_fit_from (plan_in header marker) capture from in
    coded header marker capture x s (search_theorems.found_between header marker capture from e x a l)
    ∙ sym (coded header marker capture from s (e, refl))

pub run_found_from : RunFoundFrom
run_found_from header marker frames n written capture from s short begins one a none =
    coded header marker capture from s (cut_theorems.run_found_from header marker frames n written capture s short begins one from a none)

pub none_fits_from : NoneFitsFrom
none_fits_from = search_theorems.none_from

pub none_from_is_19 : NoneFromIs19
none_from_is_19 = search_theorems.none_from_19

pub beyond_is_19 : BeyondIs19
beyond_is_19 = search_theorems.beyond_19

-- all of it
pub find_from : FindFrom
find_from = record {
  find_from_asks = find_from_asks;
  find_from_codes = find_from_codes;
  from_slot_0 = from_slot_0;
  earliest_from = earliest_from;
  found_from = found_from;
  found_between = found_between;
  run_found_from = run_found_from;
  none_fits_from = none_fits_from;
  none_from_is_19 = none_from_is_19;
  beyond_is_19 = beyond_is_19;
}
