-- An accepted header has the ten bytes that its fields are read from, and valid fields.
use mathlib.Core.Path.{sym}
use native.Mathlib.Omega.{arith}
use Rattle.header_questions.proofs.Laws.Good.{header_good}
use Rattle.header_questions.proofs.Laws.Marks.{run_good}
use Rattle.parameters.proofs.check.Goals as goal

pub read-requires : goal.read-requires
read-requires c =
    let a = c.args in
    let l = (header_good a.header.now (run_good a.header.now a.marker.now (sym c.in_ok-run_says.ensures)).0).long in
    omega arith

pub carry-requires : goal.carry-requires
carry-requires c =
    let a = c.args in
    rw c.read.ensures (header_good a.header.now (run_good a.header.now a.marker.now (sym c.in_ok-run_says.ensures)).0).valid
