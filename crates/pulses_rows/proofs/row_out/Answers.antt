-- What is read ahead is in the row, and from there on it goes group by group.
use native.Mathlib.Omega.{arith}
use Rattle.pulses.proofs.Laws.Needs.{sizes}
use Rattle.pulses_rows.proofs.row_out.Goals as goal

pub clear_end-end-requires : goal.clear_end-end-requires
clear_end-end-requires c =
    let s = c in
    let z = sizes _ _ s.requires.0.shape in
    let room = c.requires.0.room in
    let bound = c.requires.0.bound in
    (omega arith, s.requires.1, room, omega arith)
