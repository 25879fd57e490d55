-- Half a byte is the group, which 272 is asked for.
use Rattle.uplink_heard.proofs.Reading.{group_is, group_lt, bit_tested}
use Rattle.uplink_heard.proofs.is_bit.Goals as goal

pub returns : goal.returns
returns c =
    let a = c.args in
    bit_tested a.slots.now a.g _ (group_lt a.slots.now a.g) (group_is a.slots.now a.g)
