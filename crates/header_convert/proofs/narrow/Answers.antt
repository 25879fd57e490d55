-- The questions of a header, then 8, then 21, and then the eight bytes.
use mathlib.Core.Path.{◌≡◌, sym, ap, ◌∙◌}
use mathlib.Core.List.{List}
use native.Mathlib.Omega.{arith}
use Prim.Native.Nat.{ℕ, ◌≤◌}
use lib.Dec.{eqb}
use lib.ListN.{length}
use Rattle.bits.specs.Basics.{tab}
use Rattle.answers.specs.Answer.{Done}
use Rattle.header_questions.specs.Questions.{header_says}
use Rattle.answers.proofs.Laws.Answer.{left, stops, goes_on, says_last}
use Rattle.header.specs.declared.Fields.{Fields}
use Rattle.header_questions.proofs.Laws.Good.{header_good}
use Rattle.header_convert.specs.Convert.{narrow_says}
use Rattle.header_convert.proofs.Bytes.{byte_of, narrow_made}
use Rattle.header_convert.proofs.narrow.Goals as goal

pub returns-in_err-header_says-clause-value : goal.returns-in_err-header_says-clause-value
unfolding narrow_says
returns-in_err-header_says-clause-value c = stops _ _ _ _ c.from_residual.ensures.1 c.in_err-header_says.ensures

pub returns-in_err-ask-clause-value : goal.returns-in_err-ask-clause-value
unfolding narrow_says
returns-in_err-ask-clause-value c = goes_on _ _ _ c.in_ok-header_says.ensures (stops _ _ _ _ c.from_residual-in_err-ask.ensures.1 c.in_err-ask.ensures)

pub read-requires : goal.read-requires
read-requires c = let l = (header_good c.args.header.now (sym c.in_ok-header_says.ensures)).long in omega arith

pub returns-in_err-ask-2-clause-value : goal.returns-in_err-ask-2-clause-value
unfolding narrow_says
returns-in_err-ask-2-clause-value c =
    goes_on _ _ _ c.in_ok-header_says.ensures
    (goes_on _ _ _ c.in_ok-ask.ensures
    (says_last _ _ _ _ _ (left _ _ c.from_residual-in_err-ask-2.ensures.1 ∙ c.in_err-ask-2.ensures) (ap (λ (f : Fields). eqb f.copies 1) c.read.ensures)))

long : (header : List ℕ) → Done ≡ header_says header → 6 ≤ length header
long header done = let l = (header_good header (sym done)).long in omega arith

pub bounds-header-0 : goal.bounds-header-0
bounds-header-0 c = omega (arith, long c.args.header.now c.in_ok-header_says.ensures)

pub bounds-header-1 : goal.bounds-header-1
bounds-header-1 c = omega (arith, long c.args.header.now c.in_ok-header_says.ensures)

pub bounds-header-2 : goal.bounds-header-2
bounds-header-2 c = omega (arith, long c.args.header.now c.in_ok-header_says.ensures)

pub bounds-header-3 : goal.bounds-header-3
bounds-header-3 c = omega (arith, long c.args.header.now c.in_ok-header_says.ensures)

pub bounds-header-4 : goal.bounds-header-4
bounds-header-4 c = omega (arith, long c.args.header.now c.in_ok-header_says.ensures)

pub bounds-header-5 : goal.bounds-header-5
bounds-header-5 c = omega (arith, long c.args.header.now c.in_ok-header_says.ensures)

pub returns-clause-value : goal.returns-clause-value
unfolding narrow_says
returns-clause-value c =
    goes_on _ _ _ c.in_ok-header_says.ensures
    (goes_on _ _ _ c.in_ok-ask.ensures
    (says_last _ _ _ _ _ c.in_ok-ask-2.ensures (ap (λ (f : Fields). eqb f.copies 1) c.read.ensures)))

pub returns-clause-eight_after : goal.returns-clause-eight_after
unfolding tab byte_of
returns-clause-eight_after c = narrow_made c.args.header.now _ (λ i. omega (arith, c.type_inv.header i)) c.copy_from_slice.ensures.after
