-- The first one of its window is the symbol.
use Rattle.pulses.proofs.Seen.{near_some, near_seen}
use Rattle.pulses.proofs.numbers.seen_near.Goals as goal

pub leading-requires : goal.leading-requires
leading-requires c =
    let s = c in
    let a = c.args in
    let h = c.requires in
    rw c.eight.ensures (near_some a.order a.group a.b.now a.s h.0.group_least h.0.group_most h.1)

pub returns : goal.returns
returns c =
    let s = c in
    let a = c.args in
    let h = c.requires in
    near_seen a.order a.group a.b.now a.s h.0.group_least h.0.group_most h.1 c.leading.result (rw c.eight.ensures at c.leading.ensures)
