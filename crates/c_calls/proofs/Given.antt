-- What an acceptance gives fits the number that C gets.
use mathlib.Core.Path.{◌≡◌, sym}
use mathlib.Core.List.{List}
use Prim.Native.Nat.{ℕ, ◌^◌, ◌<◌}
use Rattle.std.specs.Prelude.{Result, Ok, Err, IfOk}
use Rattle.answers.specs.declared.Refusal.{Refusal}
use Rattle.answers.specs.Inner.{answer_of}
use Rattle.plan.specs.Plan.{plan_in}
use Rattle.capture_search.specs.Search.{find_from_says, first_fit_from}
use Rattle.capture_search.proofs.Laws.Search.{slot_small}

pub slot_fits : (header marker b : List ℕ) (from : ℕ) (r : Result ℕ Refusal) → answer_of r ≡ find_from_says header marker b from
    → IfOk r (λ slot. slot ≡ first_fit_from (plan_in header marker) b from) → IfOk r (λ x. x < 2 ^ 56)
slot_fits header marker b from (Ok slot) e h = rw h (slot_small header marker b from (sym e))
slot_fits header marker b from (Err x) e h = h
