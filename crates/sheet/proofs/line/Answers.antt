-- A refusal's line is `no` and its number; past it the header is good, and its fields are valid.
use mathlib.Core.Path.{◌≡◌, sym, ap, ◌∙◌}
use native.Mathlib.Omega.{arith}
use Rattle.header.specs.Header.{fields_of}
use Rattle.header_questions.proofs.Laws.Good.{header_good, copies_range}
use Rattle.sheet.specs.Line.{no_line, run_line}
use Rattle.sheet.proofs.Pieces.{printed, line_no, line_run}
use Rattle.sheet.proofs.line.Goals as goal

pub read-requires : goal.read-requires
read-requires c = let l = (header_good c.args.header.now (sym c.in-Ok.ensures)).long in omega arith

pub put_run-requires-clause-valid : goal.put_run-requires-clause-valid
put_run-requires-clause-valid c =
    let g = header_good c.args.header.now (sym c.in-Ok.ensures) in
    rw c.read.ensures (g.valid, (copies_range (fields_of c.args.header.now).copies g.copies).1)

pub returns-in-Ok-clause-printed : goal.returns-in-Ok-clause-printed
returns-in-Ok-clause-printed c =
    let a = c.args in
    let f = c.read in
    let p = c.put_run in
    printed a.header.now a.out.now (run_line f.result) p.new.out p.result (ap run_line f.ensures ∙ line_run a.header.now (sym c.in-Ok.ensures)) p.ensures

pub returns-in-Err-clause-printed : goal.returns-in-Err-clause-printed
returns-in-Err-clause-printed c =
    let a = c.args in
    let p = c.put_no in
    printed a.header.now a.out.now (no_line c.number.result) p.new.out p.result (ap no_line c.number.ensures ∙ line_no a.header.now _ _ c.in-Err.ensures) p.ensures
