-- Question 8, and the codeblocks.
use mathlib.Core.Path.{refl, sym, ◌∙◌}
use lib.ListN.{length}
use Rattle.answers.proofs.Laws.Answer.{left, says_last, ask_done}
use Rattle.uplink.specs.Uplink.{uplink_write_says}
use Rattle.uplink_writer.proofs.Answers.{framed, slots_framed}
use Rattle.uplink_writer.proofs.write.Goals as goal

pub returns-in_err-ask-clause-value : goal.returns-in_err-ask-clause-value
unfolding uplink_write_says
returns-in_err-ask-clause-value c =
    says_last _ _ _ _ _ (left _ _ c.from_residual.ensures.1 ∙ c.in_err-ask.ensures) c.uplink_lengths_right-lengths.ensures

pub codeblocks-requires : goal.codeblocks-requires
codeblocks-requires c =
    let a = c.args in
    let t = c.uplink_lengths_right-lengths in
    let yes = ask_done t.result 8 0 (sym c.in_ok-ask.ensures) in
    let m = length a.slots.now in
    (framed a.frames.now m t.result t.ensures yes, slots_framed a.frames.now m t.result t.ensures a.slots.now refl yes)

pub returns-clause-value : goal.returns-clause-value
unfolding uplink_write_says
returns-clause-value c = says_last _ _ _ _ _ c.in_ok-ask.ensures c.uplink_lengths_right-lengths.ensures
