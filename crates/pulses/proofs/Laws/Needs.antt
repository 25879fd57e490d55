-- Sizes of groups, and groups that lie in the slots.
use mathlib.Core.List.{List}
use Prim.Native.Nat.{ℕ, ◌+◌, ◌*◌, ◌^◌, ◌≤◌, ◌<◌}
use native.Mathlib.Omega.{arith}
use native.Mathlib.Nat.{le_refl, mul-le-mul}
use lib.Pow.{pow_mono}
use Rattle.pulses.specs.Inner.{Order, Slots, Sizes, Held}

pub sizes : (order group : ℕ) → Order order group → Sizes order group
sizes order group o =
    let e = o.order_is in
    let g = o.group_is in
    let least : 2 ^ 2 ≤ 2 ^ o.bits = pow_mono o.bits_least in
    let most : 2 ^ o.bits ≤ 2 ^ 8 = pow_mono o.bits_most in
    record { order_least = omega arith; order_most = omega arith; group_least = omega arith; group_most = omega arith }

module _ (order group n : ℕ) (b : List ℕ) (h : Slots order group n b) where
  pub held : (s : ℕ) → s < n → Held order group b s
  held s l =
      let k : s + 1 ≤ n = omega arith in
      let m : (s + 1) * group ≤ n * group = mul-le-mul k (le_refl group) in
      let r = h.room in
      let w = h.bound in
      record { of_group = sizes order group h.shape; inside = omega arith; small = omega arith }

  -- fewer groups, too
  pub fewer : (k : ℕ) → k ≤ n → Slots order group k b
  fewer k l =
      let m : k * group ≤ n * group = mul-le-mul l (le_refl group) in
      let r = h.room in
      let w = h.bound in
      record { shape = h.shape; room = omega arith; bound = omega arith }

  -- and there are not more than slots
  pub few : n < 2 ^ 31
  few =
      let z = sizes order group h.shape in
      let m : n * 1 ≤ n * group = mul-le-mul (le_refl n) (let q : 1 ≤ group = omega arith in q) in
      let w = h.bound in
      omega arith
