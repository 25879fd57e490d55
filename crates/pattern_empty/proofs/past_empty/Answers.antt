-- Slots of bytes that are 0 have no pulse.
use Prim.Native.Nat.{ℕ, ◌/◌}
use native.Mathlib.Omega.{arith}
use Rattle.pattern_empty.proofs.Blank.{blank}
use Rattle.pattern_empty.proofs.past_empty.Goals as goal

pub returns : goal.returns
returns c =
    let a = c.args in
    let h = c.requires in
    let n : ℕ = c.empty_end.result in
    let o = c.requires.order in (
      omega arith,
      omega arith,
      λ k g l. blank a.b.now (a.at / 8) n c.empty_end.ensures.2 k (omega arith) (omega arith),
    )
