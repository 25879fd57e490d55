-- The code is the definition.
use mathlib.Core.Path.{refl}
use Prim.Native.Nat.{◌+◌, ◌/◌}
use native.Mathlib.Omega.{arith}
use lib.ListN.{length}
use borrow.Author.Tests.{le-leb, lt-leb}
use Rattle.bits.specs.Inner.{shown, reach}
use Rattle.bits.proofs.scan.reach_of.Goals as goal

pub returns-then-b-x-ge8 : goal.returns-then-b-x-ge8
unfolding shown reach
returns-then-b-x-ge8 c =
    let a = c.args in
    rw (le-leb (a.x / 8 + 8) (length a.b.now) (omega arith)) refl

pub returns-else-b-x-ge8 : goal.returns-else-b-x-ge8
unfolding shown reach
returns-else-b-x-ge8 c =
    let a = c.args in
    rw (lt-leb (a.x / 8 + 8) (length a.b.now) (omega arith)) refl
