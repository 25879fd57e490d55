-- Eight bytes, or one with zeros after it.
use mathlib.Core.Path.{◌∙◌}
use Prim.Native.Nat.{◌+◌}
use native.Mathlib.Omega.{arith}
use lib.ListN.{length}
use borrow.Author.Tests.{le-leb, lt-leb}
use Rattle.bits.specs.Inner.{shown}
use Rattle.bits.proofs.Windows.{one_byte, eight_bytes}
use Rattle.bits.proofs.scan.window.Goals as goal

pub returns-then-b-i-ge8 : goal.returns-then-b-i-ge8
unfolding shown
returns-then-b-i-ge8 c =
    let a = c.args in
    rw (le-leb (a.i + 8) (length a.b.now) (omega arith)) (c.eight.ensures ∙ eight_bytes a.b.now a.i)

pub returns : goal.returns
unfolding shown
returns c =
    let a = c.args in
    rw (lt-leb (a.i + 8) (length a.b.now) (omega arith)) (one_byte a.b.now (λ k. (c.type_inv.b k).fits) a.i)
