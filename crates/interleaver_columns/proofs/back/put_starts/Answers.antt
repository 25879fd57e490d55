-- The columns that the word's columns before c take have their start.
use mathlib.Core.Path.{◌≡◌}
use Prim.Native.Nat.{◌<◌}
use native.Mathlib.Omega.{arith}
use lib.ListN.{get_or}
use borrow.Author.Rules.{rules}
use Rattle.interleaver_columns.specs.Inner.{taken_by}
use Rattle.interleaver_columns.proofs.Numbers.{column_lt}
use Rattle.interleaver_columns.proofs.Starts.{start_more}
use Rattle.interleaver_columns.proofs.back.put_starts.Goals as goal

pub loop-c-preserved : goal.loop-c-preserved
loop-c-preserved c =
    let l = c.loop-c in
    let s = c in
    let h : l.c < 72 = omega arith in
    let column : get_or s.args.column.now l.c 0 ≡ taken_by l.c = s.requires.0.1 l.c h in
    (search rules, rw column (start_more l.at l.c _ l.invariant.0 h (s.requires.1.1 l.c h) l.invariant.1))

pub returns : goal.returns
returns c = λ b h. c.loop-c.invariant.1 b h (let k = column_lt b in omega arith)
