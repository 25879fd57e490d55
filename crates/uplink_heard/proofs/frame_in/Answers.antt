-- What is heard, with the sequence taken off.
use Rattle.uplink_heard.proofs.Reading.{frame_heard}
use Rattle.uplink_heard.proofs.frame_in.Goals as goal

pub returns : goal.returns
returns c =
    let a = c.args in
    frame_heard a.slots.now a.i c.heard.result c.heard.ensures
