-- A hit lays its symbol among the words; the others must be 0.
use mathlib.Core.Path.{◌≡◌, refl, sym, ap, ◌∙◌}
use Prim.Native.Nat.{ℕ, zero, suc}
use lib.Dec.{eqb, eqb-suc-zero, eqb-zero-suc}
use Rattle.bits.specs.Basics.{bool}
use native.Mathlib.Omega.{arith}
use Rattle.slots_places.proofs.take_place.Goals as goal
use Rattle.slots_places.proofs.take_place.Goals.{then-x-delay-via-then-x-delay, then-x-delay-via-else-x-delay+then-total-x}

zero_same : (q : ℕ) → eqb q 0 ≡ eqb 0 q
zero_same zero = refl
zero_same (suc q) = eqb-suc-zero q ∙ sym (eqb-zero-suc q)

pub returns-then-x-delay : goal.returns-then-x-delay
returns-then-x-delay c = record {
  hit = λ a b. absurd (elim c.then-x-delay.branch [ then-x-delay-via-then-x-delay w ↦ omega arith | then-x-delay-via-else-x-delay+then-total-x w ↦ omega arith ]);
  unhit = λ n. (ap bool (zero_same c.args.q), refl);
}

pub put_symbol-requires : goal.put_symbol-requires
put_symbol-requires c = c.requires _ c.if-total-x.false

pub returns : goal.returns
returns c =
    let a = c.if-x-delay.false in
    let b = c.if-total-x.false in
    record { hit = λ d e. (refl, c.put_symbol.ensures); unhit = λ n. absurd (n a b) }
