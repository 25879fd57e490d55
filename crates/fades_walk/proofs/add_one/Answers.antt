-- One number is stored; past the end none is.
use native.Mathlib.Omega.{arith}
use Rattle.fades_walk.proofs.Walked.{plus_here, plus_none}
use Rattle.fades_walk.proofs.add_one.Goals as goal

pub returns-then-j-counts : goal.returns-then-j-counts
returns-then-j-counts c = let s = c in plus_here s.args.j s.args.counts.now (omega arith)

pub returns-else-j-counts : goal.returns-else-j-counts
returns-else-j-counts c = let s = c in plus_none s.args.j s.args.counts.now (omega arith)
