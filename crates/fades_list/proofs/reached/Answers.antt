-- The fades before number i are over, and those after it have not begun.
use mathlib.Core.Path.{sym, ap, ◌∙◌}
use Prim.Native.Nat.{ℕ}
use native.Mathlib.Omega.{arith}
use lib.Dec.{leb}
use lib.ListN.{length}
use borrow.Author.Tests.{le-ltb}
use Rattle.fades_list.proofs.Listed.{none_left, one_left}
use Rattle.fades_list.proofs.reached.Goals as goal

pub returns-else-i-fades : goal.returns-else-i-fades
returns-else-i-fades c = let s = c in le-ltb s.args.i (length s.args.fades.now) (omega arith) ∙ sym (none_left s.args.fades.now s.args.i s.args.s s.requires (omega arith))

pub returns-then-i-fades : goal.returns-then-i-fades
returns-then-i-fades c =
    let s = c in
    ap (λ (x : ℕ). leb x s.args.s) c.wide.ensures.0
    ∙ sym (one_left s.args.fades.now s.args.i s.args.s s.requires (omega arith))
