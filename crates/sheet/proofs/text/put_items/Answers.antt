-- What is put and the items to come are the whole line.
use mathlib.Core.Path.{refl, ◌∙◌}
use Prim.Native.Nat.{ℕ, ◌<◌}
use native.Mathlib.Omega.{arith}
use lib.ListN.{length, get_or}
use borrow.Author.Rules.{rules}
use Rattle.sheet.proofs.Pieces.{item_short, items_turn, items_done}
use Rattle.sheet.proofs.text.put_items.Goals as goal

pub loop-i-init : goal.loop-i-init
loop-i-init c = (omega arith, refl, omega arith, refl)

pub loop-i-preserved : goal.loop-i-preserved
loop-i-preserved c =
    let a = c.args in
    let l = c.loop-i in
    let p = c.put_item-next in
    let n : ℕ = get_or a.numbers.now l.i 0 in
    let h : l.i < length a.numbers.now = omega arith in
    let short = item_short n in
    let next = c.put_item-next.ensures.next_is in
    (search rules, p.auto.out ∙ l.invariant.1, omega arith, items_turn a.out.now l.out _ a.numbers.now a.at l.i l.next _ h l.invariant.3 p.ensures)

pub returns : goal.returns
returns c =
    let a = c.args in
    let l = c.loop-i in
    items_done a.out.now l.out a.numbers.now a.at l.i l.next (omega arith) (omega arith) (omega arith) l.invariant.3
