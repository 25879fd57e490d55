use Rattle.std.proofs.Common.{◌≡◌, ℕ, ◌-◌, ◌≤◌, ◌<◌}
use Rattle.pulses_rows.specs.Inner.{Known, Reached}
use Rattle.pulses_rows.proofs.fill.Given as goal

abbrev pub invariant-loop-k : goal.invariant-loop-k
invariant-loop-k g l =
    (f : ℕ → ℕ) → ((k q : ℕ) → l.s ≤ k → k < l.to → goal.F-post g l.symbol k q → q < l.order → f k ≡ q)
    → Known l.order f l.from (l.s - l.from) l.initial.row → Reached l.order f l.initial.row l.from l.to l.k l.row
