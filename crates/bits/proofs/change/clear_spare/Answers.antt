-- Shifted down and up again, the byte keeps the bits before `end`; where that ends a byte, none is spare.
use mathlib.Core.Path.{◌≡◌, refl}
use Prim.Native.Nat.{◌+◌, ◌-◌, ◌%◌}
use native.Mathlib.Omega.{arith}
use borrow.Author.Rules.{rules}
use Rattle.bits.proofs.Changing.{ends_whole, ends_cut}
use Rattle.bits.proofs.change.clear_spare.Goals as goal

pub returns-then-used-gt0 : goal.returns-then-used-gt0
returns-then-used-gt0 c =
    let s = c in
    let xs = c.args.packed.now in
    let used : s.args.end % 8 + (8 - s.args.end % 8) ≡ 8 = omega arith in
    ends_cut xs s.args.end (s.args.end % 8) (8 - s.args.end % 8) (λ i. search rules) refl used (omega arith) (omega arith) (omega arith)

pub returns-else-used-gt0 : goal.returns-else-used-gt0
returns-else-used-gt0 c = let s = c in ends_whole s.args.packed.now s.args.end (omega arith)
