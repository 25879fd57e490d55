-- What is left of the list is asked, after the end of the last fade, what the whole list is asked; nothing may be left at the end.
use mathlib.Core.Path.{◌≡◌, refl, sym, ap, ◌∙◌}
use mathlib.Core.Bool.{true, false}
use mathlib.Core.Logic.{⊎_elim}
use Prim.Native.Nat.{ℕ, ◌+◌}
use native.Mathlib.Omega.{arith}
use lib.Dec.{eqb}
use lib.ListN.{length}
use borrow.Author.Tests.{ne_eqb}
use Rattle.std.proofs.lemmas.Grind.{common_steps}
use Rattle.std.proofs.lemmas.List.{take_rest}
use Rattle.bits.proofs.Laws.Choice.{eq_or_ne}
use Rattle.fades.specs.Fades.{fades_good}
use Rattle.fades_list.proofs.Listed.{good_on, good_last}
use Rattle.fades_list.proofs.good.Goals as goal

either_way : (n : ℕ) → eqb n 0 ≡ eqb 0 n
either_way n =
    ⊎_elim
    (λ (e : n ≡ 0). rw e refl)
    (λ (e : n ≡ 0 → ⊥). ne_eqb n 0 e ∙ sym (ne_eqb 0 n (λ q. e (sym q))))
    (eq_or_ne n 0)

pub returns-then-not-fits : goal.returns-then-not-fits
returns-then-not-fits c =
    let l = c.loop-rest in
    let f = c.fits in
    let on = good_on l.rest.now 0 c.args.n l.end _ _ f.result (omega arith) c.wide-first.ensures.0 c.wide-size.ensures.0 f.ensures in
    let no : f.result ≡ false = c.if-not-fits.true in
    sym (sym l.invariant ∙ on ∙ rw no refl)

pub loop-rest-preserved : goal.loop-rest-preserved
loop-rest-preserved c =
    let l = c.loop-rest in
    let f = c.fits in
    let on = good_on l.rest.now 0 c.args.n l.end _ _ f.result (omega arith) c.wide-first.ensures.0 c.wide-size.ensures.0 f.ensures in
    let yes : f.result ≡ true = c.if-not-fits.false in
    ap (fades_good c.args.n (c.wide-first.result + c.wide-size.result)) (take_rest l.rest.now 2) ∙ sym (on ∙ rw yes refl) ∙ l.invariant

pub returns : goal.returns
returns c =
    let l = c.loop-rest in
    grind (arith, common_steps) ∙ either_way (length l.rest.now) ∙ sym (good_last l.rest.now 0 c.args.n l.end (omega arith) (omega arith)) ∙ l.invariant
