-- A group whose copies have pulses in one slot alone.
use mathlib.Core.Path.{◌≡◌, refl, ap, ◌∙◌}
use mathlib.Core.List.{List}
use Prim.Native.Nat.{ℕ, ◌≤◌, ◌<◌}
use native.Mathlib.Omega.{arith}
use lib.Dec.{ltb, eqb}
use borrow.Author.Tests.{ltb-true, ltb-false, eq-eqb, ne_eqb}
use Rattle.bits.specs.Basics.{bool}
use Rattle.bits.proofs.Laws.Choice.{bool_true, bool_no}
use Rattle.pool.specs.Pooled.{count, pooled}
use Rattle.pool.proofs.Laws.Pooled.{pooled_at}

-- no slot but q has a pulse, and that has one
pub pooled_alone : (b : List ℕ) (copies group order s q : ℕ) → order ≤ group → q < order
    → ((r : ℕ) → r < group → bool (ltb 0 (count b copies group s r)) ≡ bool (eqb r q)) → pooled b copies group order s ≡ q
pooled_alone b copies group order s q big l h =
    pooled_at b copies group order s q l
    (record { small = omega arith; rest = λ r k e. let x = none r k e in let y = some in omega arith })
  where
    f : ℕ → ℕ
    f = count b copies group s

    none : (r : ℕ) → r < group → (r ≡ q → ⊥) → f r ≡ 0
    none r k e = let z = ltb-false 0 (f r) (bool_no (ltb 0 (f r)) (h r k ∙ ap bool (ne_eqb r q e))) in omega arith

    some : 0 < f q
    some = ltb-true 0 (f q) (bool_true (ltb 0 (f q)) (h q (omega arith) ∙ ap bool (eq-eqb q q refl)))
