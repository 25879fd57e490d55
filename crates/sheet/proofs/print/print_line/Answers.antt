-- The line is that of what was read, and what was read is enough for the line of all.
use Rattle.std.proofs.lemmas.Result.{on_ok_weaker}
use Rattle.sheet.proofs.Input.{front_read, line_printed, front_taken}
use Rattle.sheet.proofs.print.print_line.Goals as goal

pub returns-clause-printed : goal.returns-clause-printed
returns-clause-printed g c =
    let n = c.in_ok-n in
    let front = front_read _ _ c.read_full.new.header _ n.n c.read_full.auto.header n.ensures.n_bound n.ensures.bytes n.ensures.end in
    on_ok_weaker c.write_all.result (line_printed _ _ _ _ _ front c.line-k.ensures.printed.text) c.write_all.ensures.bytes

pub returns-clause-taken : goal.returns-clause-taken
returns-clause-taken g c =
    let n = c.in_ok-n in
    let front = front_read _ _ c.read_full.new.header _ n.n c.read_full.auto.header n.ensures.n_bound n.ensures.bytes n.ensures.end in
    on_ok_weaker c.write_all.result (λ _. front_taken _ _ _ front n.ensures.bytes) c.write_all.ensures.bytes
