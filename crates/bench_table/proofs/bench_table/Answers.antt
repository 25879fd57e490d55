-- Each row is a worked value of a step, which antt computes.
use Rattle.bench_table.proofs.Table.{rows, bench, sent_twice}
use Rattle.bench_table.proofs.bench_table.Goals as goal

pub returns : goal.returns
returns c = record { rows = rows; bench = bench; sent_twice = sent_twice }
