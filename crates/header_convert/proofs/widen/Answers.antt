-- The questions of eight bytes, then 8, and then the ten bytes.
use mathlib.Core.Path.{◌≡◌, sym, ◌∙◌}
use mathlib.Core.List.{List}
use native.Mathlib.Omega.{arith}
use Prim.Native.Nat.{ℕ, ◌≤◌}
use lib.ListN.{length}
use Rattle.bits.specs.Basics.{tab}
use Rattle.answers.specs.Answer.{Done}
use Rattle.header_questions.specs.Questions.{old_says}
use Rattle.answers.proofs.Laws.Answer.{left, stops, goes_on}
use Rattle.header_questions.proofs.Laws.Good.{old_good}
use Rattle.header_convert.specs.Convert.{widen_says}
use Rattle.header_convert.proofs.Bytes.{byte_of, wide_made}
use Rattle.header_convert.proofs.widen.Goals as goal

pub returns-in_err-old_says-clause-value : goal.returns-in_err-old_says-clause-value
unfolding widen_says
returns-in_err-old_says-clause-value c = stops _ _ _ _ c.from_residual.ensures.1 c.in_err-old_says.ensures

pub returns-in_err-ask-clause-value : goal.returns-in_err-ask-clause-value
unfolding widen_says
returns-in_err-ask-clause-value c = goes_on _ _ _ c.in_ok-old_says.ensures (left _ _ c.from_residual-in_err-ask.ensures.1 ∙ c.in_err-ask.ensures)

long : (old : List ℕ) → Done ≡ old_says old → 6 ≤ length old
long old done = let l = (old_good old (sym done)).long in omega arith

pub bounds-old-0 : goal.bounds-old-0
bounds-old-0 c = omega (arith, long c.args.old.now c.in_ok-old_says.ensures)

pub bounds-old-1 : goal.bounds-old-1
bounds-old-1 c = omega (arith, long c.args.old.now c.in_ok-old_says.ensures)

pub bounds-old-2 : goal.bounds-old-2
bounds-old-2 c = omega (arith, long c.args.old.now c.in_ok-old_says.ensures)

pub bounds-old-3 : goal.bounds-old-3
bounds-old-3 c = omega (arith, long c.args.old.now c.in_ok-old_says.ensures)

pub bounds-old-4 : goal.bounds-old-4
bounds-old-4 c = omega (arith, long c.args.old.now c.in_ok-old_says.ensures)

pub bounds-old-5 : goal.bounds-old-5
bounds-old-5 c = omega (arith, long c.args.old.now c.in_ok-old_says.ensures)

pub returns-clause-value : goal.returns-clause-value
unfolding widen_says
returns-clause-value c = goes_on _ _ _ c.in_ok-old_says.ensures c.in_ok-ask.ensures

pub returns-clause-ten_after : goal.returns-clause-ten_after
unfolding tab byte_of
returns-clause-ten_after c = wide_made c.args.old.now _ (λ i. omega (arith, c.type_inv.old i)) c.copy_from_slice.ensures.after
