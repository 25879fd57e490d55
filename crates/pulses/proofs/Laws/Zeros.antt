-- Forty bytes of zero symbols repeat: groups of a buffer that agrees with them.
use mathlib.Core.Path.{◌≡◌, ap, ap₂, ◌∙◌}
use mathlib.Core.Bool.{true}
use mathlib.Core.List.{List}
use Prim.Native.Nat.{ℕ, ◌+◌, ◌-◌, ◌*◌, ◌/◌, ◌%◌, ◌^◌, ◌≤◌, ◌<◌}
use native.Mathlib.Omega.{arith}
use native.Mathlib.Nat.{mul_assoc, le-div_iff_mul-le}
use lib.Arith.{digits_lt, digits_mod}
use lib.Dec.{ltb, eqb, eqb→eq}
use lib.ListN.{get_or}
use borrow.Author.Tests.{le-ltb}
use Rattle.bits.specs.Basics.{pick, bool}
use Rattle.bits.specs.Pack.{bit_at}
use Rattle.bits.proofs.Laws.Table.{below_all}
use Rattle.pulses.proofs.Laws.Groups.{group_made}
use Rattle.pulses.specs.Inner.{Order, Zeros, Same}
use Rattle.pulses.proofs.Laws.Needs.{sizes}
use Rattle.pulses.specs.Pulses.{symbol_in}

-- ---- forty bytes hold whole groups, at every pulse order: a test, which antt computes

whole : (m : ℕ) → 2 ≤ m → m ≤ 8 → 320 / (2 ^ m + 2 ^ m / 4) * (2 ^ m + 2 ^ m / 4) ≡ 320
whole m l h =
    eqb→eq (320 / (2 ^ m + 2 ^ m / 4) * (2 ^ m + 2 ^ m / 4)) 320
    (rw (le-ltb m 2 l) at (below_all 9 (λ m. pick (ltb m 2) true (eqb (320 / (2 ^ m + 2 ^ m / 4) * (2 ^ m + 2 ^ m / 4)) 320)) tt m (omega arith)))

pub whole_groups : (order group : ℕ) → Order order group → 320 / group * group ≡ 320
whole_groups order group o =
    let e : group ≡ 2 ^ o.bits + 2 ^ o.bits / 4 = o.group_is ∙ ap (λ (v : ℕ). v + v / 4) o.order_is in
    rw e (whole o.bits o.bits_least o.bits_most)

pub some_groups : (order group : ℕ) → Order order group → 1 ≤ 320 / group
some_groups order group o = let k = sizes order group o in (le-div_iff_mul-le (let g : 0 < group = omega arith in g)).1 (omega arith)

module _ (order group : ℕ) (o : Order order group) (c : ℕ) where
  -- where they begin
  pub forty_at : (j : ℕ) → (c * (320 / group) + j) * group ≡ 320 * c + j * group
  forty_at j =
      let w : 320 / group * group ≡ 320 = whole_groups order group o in
      let e : c * (320 / group) * group ≡ c * (320 / group * group) = mul_assoc c (320 / group) group in
      let f : c * (320 / group * group) ≡ c * 320 = ap (λ (v : ℕ). c * v) w in
      omega arith

  -- and all have the symbol 0 where they are zeros' slots
  pub forty_zeros : (b given : List ℕ) → Zeros group given → Same b (40 * c) given 40 → (s : ℕ) → c * (320 / group) ≤ s → s < c * (320 / group) + 320 / group → symbol_in order group b s ≡ 0
  unfolding bit_at
  forty_zeros b given zeros same s from to =
      let n : ℕ = 320 / group in
      let w : n * group ≡ 320 = whole_groups order group o in
      let j : ℕ = s - c * n in
      let hj : j < n = omega arith in
      let e : s ≡ c * n + j = omega arith in
      let x : s * group ≡ 320 * c + j * group = ap (λ (v : ℕ). v * group) e ∙ forty_at j in
      let z = sizes order group o in
      group_made order group z.group_least b s 0 (record {
        small = omega arith;
        slot = λ r l.
            let i : ℕ = j * group + r in
            let hi : i < 320 = let d : j * group + r < n * group = digits_lt hj l in omega arith in
            let q : (s * group + r) / 8 ≡ 40 * c + i / 8 = omega arith in
            let m : (s * group + r) % 8 ≡ i % 8 = omega arith in
            ap₂ (λ (u v : ℕ). get_or b u 0 / 2 ^ (7 - v) % 2) q m
            ∙ ap (λ (v : ℕ). v / 2 ^ (7 - i % 8) % 2) (same (i / 8) (omega arith))
            ∙ zeros.slot i hi
            ∙ ap (λ (v : ℕ). bool (eqb v 0)) (digits_mod j l);
      })
