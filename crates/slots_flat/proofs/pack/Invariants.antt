use Prim.Native.Nat.{◌+◌, ◌*◌, ◌/◌}
use lib.ListN.{set}
use Rattle.slots_residues.specs.Inner.{Scattered}
use Rattle.slots_flat.proofs.pack.Given as goal

abbrev pub invariant-loop-k : goal.invariant-loop-k
invariant-loop-k g l = Scattered l.row l.from (8 / g.row.M * l.k) 1 g.row.M (8 / g.row.M * l.at) l.initial.words l.words

abbrev pub invariant-loop-q : goal.invariant-loop-q
invariant-loop-q g l = Scattered l.row l.from (8 / g.row.M * l.k + l.q) 1 g.row.M (8 / g.row.M * l.at) l.fn.words (set l.words (l.at + l.k) l.byte)
