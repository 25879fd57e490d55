-- The parity bits heard are those of the frame heard exactly if all checks pass: `by_parity`.
use Rattle.uplink_heard.proofs.Reading.{parity_heard, compared}
use Rattle.uplink_heard.proofs.passes.Goals as goal

pub returns : goal.returns
returns c =
    let a = c.args in
    let frame = c.frame_in in
    let there = c.heard-parity in
    compared a.slots.now a.i frame.result c.parity.result _ frame.ensures c.parity.ensures
    (parity_heard a.slots.now a.i there.result there.ensures)
