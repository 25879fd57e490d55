-- The first places are filled, in order.
use mathlib.Core.Path.{◌≡◌, ap₂, ◌∙◌}
use Prim.Native.Nat.{ℕ, ◌+◌, ◌*◌, ◌/◌, ◌%◌}
use native.Mathlib.Omega.{arith}
use lib.ListN.{get_or}
use borrow.Author.Rules.{rules}
use Rattle.bits.proofs.Laws.Table.{fill}
use Rattle.word_columns.specs.Inner.{has_bit, split_at}
use Rattle.word_columns.proofs.picking.two_lines.Goals as goal

pub loop-y-preserved : goal.loop-y-preserved
unfolding split_at
loop-y-preserved c =
    let l = c.loop-y in
    let s = c in
    let k = c.args.k in
    let seen = c.args.seen.now in
    let mask = c.args.mask.now in
    let x : ℕ = 144 * k + l.y in
    let from : 144 * (k % 15) + l.y ≡ x % 2160 = omega arith in
    let by : 144 * (k / 15) + l.y ≡ 144 * (x / 2160) + x % 144 = omega arith in (
      search rules,
      λ j g. fill l.coded (split_at seen mask) x c.has_bit.result (omega arith)
          (c.has_bit.ensures ∙ ap₂ (λ (a b : ℕ). has_bit (get_or seen a 0) (get_or mask b 0)) from by)
          l.invariant.1 j (omega arith),
    )
