-- Every byte below i is right.
use native.Mathlib.Omega.{arith}
use Rattle.bits.proofs.Laws.Pack.{bytes_by_byte}
use Rattle.bits.proofs.packing.pack.Goals as goal

pub returns : goal.returns
returns c = let l = c.loop-i in bytes_by_byte _ _ l.out l.auto.out (λ k h. l.invariant k (omega arith))
