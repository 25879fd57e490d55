-- The forties in front of the first that differs are those given.
use Rattle.std.proofs.Common.{ℕ, ◌*◌, ◌≤◌, ◌<◌, Option, None, Some, MatchOption, unwrap_or, arith, rules, tests}
use Rattle.std.proofs.lemmas.Iterator.{first_from_Range}
use Rattle.pulses.specs.Inner.{Same}
use Rattle.pulses.proofs.groups.past_zeros.Goals as goal

-- the first of the numbers from c on, or n
first_or : (c n : ℕ) (Yes No : ℕ → Type 0) → c ≤ n → (r : Option ℕ)
    → MatchOption r ((k : ℕ) → c ≤ k → k < n → No k) (λ i. (c ≤ i) × (i < n) × Yes i × ((k : ℕ) → c ≤ k → k < i → No k))
    → (c ≤ unwrap_or r n) × (unwrap_or r n ≤ n) × ((k : ℕ) → c ≤ k → k < unwrap_or r n → No k)
first_or c n Yes No h None m = (h, omega arith, m)
first_or c n Yes No h (Some i) m = (m.0, omega arith, m.3)

pub returns : goal.returns
returns c =
    let a = c.args in
    let No : ℕ → Type 0 = λ k. Same a.b.now (40 * k) a.given.now 40 in
    rw c.unwrap_or.ensures (first_or a.c a.n (λ k. Unit {0}) No c.requires.order c.find.result
    (first_from_Range _ _ _ _ (λ k. Unit {0}) No c.find.ensures.ran (λ k q h. tt) (λ k q h. search (rules, tests))))
