-- The last place's delay is the longest, and no symbol comes sooner than its own number.
use native.Mathlib.Omega.{arith}
use Rattle.slots.proofs.Laws.Bounds.{bounds}
use Rattle.slots_places.proofs.full.Goals as goal

pub overflow_mul-p : goal.overflow_mul-p
overflow_mul-p c = let k = bounds c.args.p c.requires.0 in omega arith
