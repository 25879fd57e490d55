-- Question 8, then 28 and 29, and the frames once all are answered yes.
use mathlib.Core.Path.{refl, sym, ◌∙◌}
use lib.ListN.{length}
use Rattle.answers.proofs.Laws.Answer.{left, stops_at, goes_past, ask_done}
use Rattle.uplink.specs.Uplink.{uplink_read_says}
use Rattle.uplink_reader.proofs.Answers.{slotted, frames_slotted}
use Rattle.uplink_reader.proofs.read.Goals as goal

pub returns-in_err-ask-clause-value : goal.returns-in_err-ask-clause-value
unfolding uplink_read_says
returns-in_err-ask-clause-value c =
    stops_at _ _ _ _ _ _ _ c.from_residual.ensures.1 c.in_err-ask.ensures c.uplink_lengths_right-lengths.ensures

pub uplink_slots_say-requires : goal.uplink_slots_say-requires
uplink_slots_say-requires c =
    let a = c.args in
    let t = c.uplink_lengths_right-lengths in
    slotted a.slots.now (length a.frames.now) t.result t.ensures (ask_done t.result 8 0 (sym c.in_ok-ask.ensures))

pub returns-in_err-uplink_slots_say-clause-value : goal.returns-in_err-uplink_slots_say-clause-value
unfolding uplink_read_says
returns-in_err-uplink_slots_say-clause-value c =
    goes_past _ _ _ _ _ _ c.in_ok-ask.ensures c.uplink_lengths_right-lengths.ensures
    (left _ _ c.from_residual-in_err-uplink_slots_say.ensures.1 ∙ c.in_err-uplink_slots_say.ensures)

pub frames_out-requires : goal.frames_out-requires
frames_out-requires c =
    let a = c.args in
    let t = c.uplink_lengths_right-lengths in
    let yes = ask_done t.result 8 0 (sym c.in_ok-ask.ensures) in
    let m = length a.frames.now in
    (slotted a.slots.now m t.result t.ensures yes, frames_slotted a.slots.now m t.result t.ensures a.frames.now refl yes)

pub returns-clause-value : goal.returns-clause-value
unfolding uplink_read_says
returns-clause-value c =
    goes_past _ _ _ _ _ _ c.in_ok-ask.ensures c.uplink_lengths_right-lengths.ensures c.in_ok-uplink_slots_say.ensures
