-- Each group of the range was looked at.
use Rattle.std.proofs.Common.{◌≡◌, Bool, true, false, ℕ, ◌+◌, ◌-◌, ◌≤◌, ◌<◌, length, refl, arith, rules, tests}
use Rattle.std.specs.Bool.{MatchBool}
use Rattle.std.specs.List.{AllWithin, range_with_len}
use Rattle.std.proofs.lemmas.Iterator.{cases_from_all, YieldsList-from_range}
use Rattle.std.proofs.lemmas.List.FromFn.{length-range_with_len, get_or-range_with_len}
use Rattle.pulses.specs.Pulses.{symbol_in}
use Rattle.pulses.proofs.numbers.all_good.Goals as goal

-- what holds of each of a range's numbers
each : (from to : ℕ) (P : ℕ → Type 0) (Q : Type 0) (r : Bool)
    → MatchBool r (AllWithin P (range_with_len from (to - from)) 0 (length (range_with_len from (to - from)))) Q
    → r ≡ true → (s : ℕ) → from ≤ s → s < to → P s
each from to P Q true m e s h l =
    let n : ℕ = to - from in
    let i : ℕ = s - from in
    let inside : i < n = omega arith in
    let is : from + i ≡ s = omega arith in
    rw (get_or-range_with_len from n i 0 inside, is) at (m i 0 (omega arith) (rw length-range_with_len inside))
each from to P Q false m e s h l = absurd cc

pub returns : goal.returns
returns c =
    let a = c.args in
    let good : ℕ → Type 0 = λ s. symbol_in a.order a.group a.b.now s < a.order in
    each a.from a.to good _ c.all.result
    (cases_from_all _ _ _ good (λ s. Unit {0}) c.all.ensures.ran (YieldsList-from_range a.from a.to (a.to - a.from) refl refl) (λ s q h. search (rules, tests)) (λ s q h. tt))
