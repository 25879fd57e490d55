-- Each turn has the three numbers of a column more.
use mathlib.Core.Path.{◌≡◌, ap, ◌∙◌}
use Prim.Native.Nat.{ℕ, ◌+◌, ◌-◌, ◌*◌, ◌/◌, ◌%◌, ◌<◌}
use native.Mathlib.Omega.{arith}
use lib.ListN.{get_or}
use borrow.Author.Rules.{rules}
use Rattle.bits.proofs.Laws.Table.{fill}
use Rattle.interleaver.specs.Interleaver.{source_bit}
use Rattle.interleaver.proofs.Laws.Interleaver.{source_lt}
use Rattle.interleaver_columns.specs.Inner.{taken_by, start_in, up_in}
use Rattle.interleaver_columns.proofs.Starts.{start_place, in_place}
use Rattle.interleaver_columns.proofs.back.taken_columns.Goals as goal

pub overflow_sub-a : goal.overflow_sub-a
overflow_sub-a c =
    let l = c.loop-c in
    omega (arith, c.requires.0.1 l.c (omega arith), source_lt l.c)

pub loop-c-preserved : goal.loop-c-preserved
loop-c-preserved c =
    let l = c.loop-c in
    let s = c in
    let h : l.c < 72 = omega arith in
    let p : get_or s.args.off.now l.c 0 ≡ source_bit l.c = s.requires.0.1 l.c h in (
      search rules,
      search rules,
      search rules,
      fill l.column taken_by l.c _ (omega arith) (ap (λ (j : ℕ). j % 72) p) l.invariant.3,
      fill l.start (λ c. start_in (taken_by c)) l.c _ (omega arith)
          (ap (λ (j : ℕ). 540 * (7 - l.c % 8) + 9 * ((210 - j / 72) % 30) + l.c / 8) p ∙ start_place l.c h) l.invariant.4,
      fill l.up (λ c. up_in (taken_by c)) l.c _ (omega arith) (ap (λ (j : ℕ). (210 - j / 72) / 30 % 7) p ∙ in_place l.c h) l.invariant.5,
    )
