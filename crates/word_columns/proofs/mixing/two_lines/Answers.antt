-- The first places are filled, in order.
use mathlib.Core.Path.{◌≡◌, ap, ◌∙◌}
use Prim.Native.Nat.{ℕ, ◌+◌, ◌*◌, ◌%◌}
use native.Mathlib.Omega.{arith}
use lib.ListN.{get_or}
use borrow.Author.Rules.{rules}
use Rattle.bits.proofs.Laws.Table.{fill}
use Rattle.word_columns.specs.Inner.{mix_sum, mixed_at}
use Rattle.word_columns.proofs.mixing.two_lines.Goals as goal

pub loop-y-preserved : goal.loop-y-preserved
unfolding mixed_at
loop-y-preserved c =
    let l = c.loop-y in
    let a = c.args in
    let x : ℕ = 144 * a.n + l.y in
    let col : l.y ≡ x % 144 = omega arith in (
      search rules,
      λ k h. fill l.v (mixed_at a.coded.now a.mask.now) x c.mixed.result (omega arith)
          (c.mixed.ensures ∙ ap (λ (y : ℕ). mix_sum (λ i. get_or a.coded.now (x + 2160 * i) 0) (λ i. get_or a.mask.now (144 * i + y) 0) 7) col)
          l.invariant.1 k (omega arith),
    )
