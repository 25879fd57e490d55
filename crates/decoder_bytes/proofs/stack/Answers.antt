-- Each turn deals two rows more.
use mathlib.Core.Path.{◌∙◌}
use native.Mathlib.Omega.{arith}
use borrow.Author.Rules.{rules}
use Rattle.decoder_bytes.proofs.Transposing.{stacked_more}
use Rattle.decoder_bytes.proofs.stack.Goals as goal

pub loop-j-preserved : goal.loop-j-preserved
loop-j-preserved c =
    let second = c.deal-in-loop-j.ensures in
    let first = c.deal.ensures in
    let l = c.loop-j in (
      search rules,
      second.long ∙ first.long ∙ l.invariant.1,
      stacked_more _ _ _ _ _ _ l.j _ _ _ (omega arith) first second l.invariant.2,
    )
