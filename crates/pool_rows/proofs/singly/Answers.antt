-- Each symbol goes into the row as it is asked for.
use Rattle.std.proofs.Common.{◌≡◌, ℕ, rules}
use Rattle.pool.specs.Pooled.{pooled}
use Rattle.pulses_rows.proofs.Laws.Rows.{reach_value}
use Rattle.pool_rows.proofs.singly.Goals as goal

pub returns-clause-value : goal.returns-clause-value
returns-clause-value c =
    let a = c.args in
    let f : ℕ → ℕ = pooled a.b.now a.copies a.group a.order in
    reach_value _ _ _ _ _ _ _ (c.fill.ensures.reached f (λ k q low high e small. search rules) c.requires.4) (λ l.
    let bad = c.fill.ensures.stops l in
    let post = bad.1 in
    let is : bad.0 ≡ f c.fill.result = search rules in
    rw is at bad.2)
