-- The piece and the bit in it at which a bit of a row of pieces lies.
use mathlib.Core.Path.{◌≡◌, sym, ap, ◌∙◌}
use Prim.Native.Nat.{ℕ, ◌+◌, ◌*◌, ◌≤◌}
use native.Mathlib.Omega.{arith}
use native.Mathlib.Nat.{mul-le-mul, le_refl}
use Rattle.bits.specs.declared.pieces.Position.{Position}
use Rattle.bits.specs.Inner.{At}

pub at_same : {k x y : ℕ} {p : Position} → x ≡ y → At k x p → At k y p
at_same e a = record { place = a.place ∙ e; inside = a.inside }

-- its piece is no further on than the bit
pub piece_le : {k x : ℕ} {p : Position} → At k x p → p.piece ≤ x
piece_le {k} {x} {p} a =
    let inside = a.inside in
    let place = a.place in
    let one : 1 ≤ k = omega arith in
    let m : p.piece * 1 ≤ p.piece * k = mul-le-mul (le_refl p.piece) one in
    omega arith

-- n bits on, as `position_after` says it with k for m
pub at_on : {k m x : ℕ} {p r : Position} (n : ℕ) → k ≡ m → At m x p → At k (p.piece * k + p.bit + n) r → At m (x + n) r
at_on {k} {m} {x} {p} {r} n e a b =
    record {
      place = ap (λ (j : ℕ). r.piece * j + r.bit) (sym e) ∙ b.place ∙ ap (λ (j : ℕ). p.piece * j + p.bit + n) e ∙ ap (λ (y : ℕ). y + n) a.place;
      inside = rw e at b.inside;
    }
