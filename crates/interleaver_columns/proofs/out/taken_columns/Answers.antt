-- Each turn has the two numbers of a column more.
use mathlib.Core.Path.{◌≡◌, sym, ap, ◌∙◌}
use Prim.Native.Nat.{ℕ, ◌-◌, ◌/◌, ◌%◌, ◌<◌}
use native.Mathlib.Omega.{arith}
use lib.ListN.{get_or}
use borrow.Author.Rules.{rules}
use Rattle.bits.proofs.Laws.Table.{fill}
use Rattle.interleaver.specs.Interleaver.{source_bit}
use Rattle.interleaver.proofs.Laws.Interleaver.{source_lt}
use Rattle.interleaver_columns.specs.Inner.{taken_by, up_out}
use Rattle.interleaver_columns.proofs.Numbers.{out_place}
use Rattle.interleaver_columns.proofs.out.taken_columns.Goals as goal

pub overflow_sub-up : goal.overflow_sub-up
overflow_sub-up c =
    let l = c.loop-c in
    omega (arith, c.requires.0.1 l.c (omega arith), source_lt l.c)

pub loop-c-preserved : goal.loop-c-preserved
loop-c-preserved c =
    let l = c.loop-c in
    let s = c in
    let h : l.c < 72 = omega arith in
    let p : get_or s.args.off.now l.c 0 ≡ source_bit l.c = s.requires.0.1 l.c h in (
      search rules,
      search rules,
      fill l.column taken_by l.c _ (omega arith) (ap (λ (j : ℕ). j % 72) p) l.invariant.2,
      fill l.up (λ c. up_out (taken_by c)) l.c _ (omega arith) (ap (λ (j : ℕ). (7 - j / 2160) % 7) p ∙ sym (out_place l.c h)) l.invariant.3,
    )
