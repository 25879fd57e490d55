-- `first_line` meets its contract: every place below c is filled, and the table's rule is a computed test.
use mathlib.Core.Path.{refl}
use native.Mathlib.Omega.{arith}
use borrow.Author.Count.{below_none}
use Rattle.bits.proofs.Laws.Table.{tab_made}
use Rattle.interleaver.specs.Interleaver.{source_bit}
use Rattle.interleaver.proofs.Laws.Interleaver.{source_lt}
use Rattle.interleaver.proofs.Laws.Squares.{table_right}
use borrow.Author.Rules.{rules}
use Rattle.interleaver_line.proofs.first_line.Goals as goal

pub loop-c-init : goal.loop-c-init
loop-c-init c = (table_right _ refl tt, search rules, below_none _)

pub overflow_cast-bit : goal.overflow_cast-bit
overflow_cast-bit c = omega (arith, c.source_bit.ensures, source_lt c.loop-c.c)

pub returns : goal.returns
returns c =
    let l = c.loop-c in
    tab_made 72 source_bit l.off l.invariant.1 (λ k h. l.invariant.2 k (omega arith))
