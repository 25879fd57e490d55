use Rattle.std.proofs.Common.{◌≡◌, ℕ, ◌<◌}
use lib.Dec.{ltb}
use Rattle.bits.specs.Basics.{bool}
use Rattle.bits.specs.Pack.{bit_of}
use Rattle.pool_rows.specs.Inner.{pulses_of}
use Rattle.pool_rows.proofs.near.leader.Given as goal

abbrev pub invariant-loop-c : goal.invariant-loop-c
invariant-loop-c g l =
    (f : ℕ → ℕ → ℕ) → ((c v i : ℕ) → c < l.copies → i < l.group → goal.F-post g l.number c v → bit_of v i ≡ f c i)
    → (i : ℕ) → i < l.group → (bit_of l.any i ≡ bool (ltb 0 (pulses_of f l.c i))) × (bit_of l.several i ≡ bool (ltb 1 (pulses_of f l.c i)))
