-- A number with a single one, and the group that it shows.
use mathlib.Core.Path.{◌≡◌, sym, ap, ◌∙◌}
use Prim.Native.Nat.{ℕ, ◌+◌, ◌-◌, ◌*◌, ◌/◌, ◌%◌, ◌^◌, ◌≤◌, ◌<◌}
use native.Mathlib.Omega.{arith}
use lib.Dec.{ltb, eqb, eqb→eq}
use lib.Pow.{pow-add, pow_mono, shl-shr, shl_exact}
use mathlib.Core.Bool.{true}
use mathlib.Core.List.{List}
use lib.ListN.{length}
use mathlib.Core.Logic.{⊎_elim}
use borrow.Author.Tests.{le-ltb}
use Rattle.bits.specs.Basics.{pick}
use Rattle.bits.proofs.Laws.Choice.{lt_or_le}
use Rattle.bits.specs.Inner.{Leads, bits_from}
use Rattle.bits.specs.Pack.{val, bit_at, cut, Bits}
use Rattle.bits.proofs.Laws.Pack.{bit_lt, cut_in, cut_bits}
use Rattle.bits.proofs.Laws.Parts.{val_shift}
use Rattle.bits.proofs.Laws.Table.{below_all}
use Rattle.pulses.proofs.Laws.Groups.{group_made}
use Rattle.pulses.proofs.Laws.Lone.{lone_bits, kept}
use Rattle.pulses.specs.Inner.{Order, Slots, Near, Far}
use Rattle.pulses.proofs.Laws.Needs.{sizes, held}
use Rattle.pulses.specs.Pulses.{symbol_in}

-- what shifts up to 2 ^ 63 with nothing lost is a power of 2
pub power : (v r : ℕ) → Leads 64 v r → v * 2 ^ r % 2 ^ 64 ≡ 2 ^ 63 → v ≡ 2 ^ (63 - r)
power v r l e =
    let s : r < 64 = l.small in
    let j : 64 - r + r ≤ 64 = omega arith in
    let whole : v * 2 ^ r ≡ 2 ^ 63 = sym (shl_exact (64 - r) r 64 l.pass j) ∙ e in
    let sum : 63 - r + r ≡ 63 = omega arith in
    let up : 2 ^ (63 - r) * 2 ^ r ≡ 2 ^ 63 = sym (pow-add 2 (63 - r) r) ∙ ap (λ (k : ℕ). 2 ^ k) sum in
    sym (shl-shr v r) ∙ ap (λ (k : ℕ). k / 2 ^ r) (whole ∙ sym up) ∙ shl-shr (2 ^ (63 - r)) r

-- a group whose number has a single one, among its first M slots, has that symbol
pub near_symbol : (order group : ℕ) (b : List ℕ) (s r : ℕ) → order ≤ group → group ≤ 40 → r < order
    → val (bits_from b (8 * (s * group / 8))) 64 * 2 ^ (s * group % 8) % 2 ^ 64 / 2 ^ (64 - group) * 2 ^ (64 - group) % 2 ^ 64 ≡ 2 ^ (63 - r) → symbol_in order group b s ≡ r
near_symbol order group b s r big most small e =
    let x : ℕ = s * group in
    let c : ℕ = x % 8 in
    let f : ℕ → ℕ = bits_from b (8 * (x / 8)) in
    let bits : Bits f = λ k. bit_lt b (8 * (x / 8) + k) in
    let rest : ℕ → ℕ = cut (64 - c) (λ t. f (c + t)) in
    let rest-bits : Bits rest = cut_bits (64 - c) (λ t. f (c + t)) (λ t. bits (c + t)) in
    let shifted : val f 64 * 2 ^ c % 2 ^ 64 ≡ val rest 64 = val_shift f bits c 64 (omega arith) in
    let number : val (cut group rest) 64 ≡ 2 ^ (63 - r) =
    sym (ap (λ (n : ℕ). n / 2 ^ (64 - group) * 2 ^ (64 - group) % 2 ^ 64) shifted ∙ kept rest rest-bits group (omega arith)) ∙ e in
    group_made order group big b s r (record {
      small = small;
      slot = λ i h.
          let at : x + i ≡ 8 * (x / 8) + (c + i) = omega arith in
          ap (bit_at b) at
          ∙ sym (cut_in (64 - c) (λ t. f (c + t)) i (omega arith))
          ∙ sym (cut_in group rest i h)
          ∙ lone_bits (cut group rest) (cut_bits group rest rest-bits) r (omega arith) number i (omega arith);
    })

-- ---- which orders are near, and which are far

module _ (order group : ℕ) (o : Order order group) where
  pub near_shape : order < 64 → group ≤ 40
  near_shape l =
      let e = o.order_is in
      let g = o.group_is in
      let few : o.bits ≤ 5 = ⊎_elim (λ (a : o.bits < 6). omega arith) (λ (a : 6 ≤ o.bits). let p : 2 ^ 6 ≤ 2 ^ o.bits = pow_mono a in absurd (omega arith)) (lt_or_le o.bits 6) in
      let p : 2 ^ o.bits ≤ 2 ^ 5 = pow_mono few in
      omega arith

  pub far_shape : 64 ≤ order → order ≡ 64 * (order / 64)
  far_shape l =
      let e = o.order_is in
      let most = o.bits_most in
      let many : 6 ≤ o.bits = ⊎_elim (λ (a : o.bits < 6). let p : 2 ^ o.bits ≤ 2 ^ 5 = pow_mono (let b : o.bits ≤ 5 = omega arith in b) in absurd (omega arith)) (λ (a : 6 ≤ o.bits). a) (lt_or_le o.bits 6) in
      rw e (whole o.bits many most)
    where
      -- a test, which antt computes
      whole : (m : ℕ) → 6 ≤ m → m ≤ 8 → 2 ^ m ≡ 64 * (2 ^ m / 64)
      whole m a b =
          eqb→eq (2 ^ m) (64 * (2 ^ m / 64))
          (rw (le-ltb m 6 a) at (below_all 9 (λ m. pick (ltb m 6) true (eqb (2 ^ m) (64 * (2 ^ m / 64)))) tt m (omega arith)))

module _ (order group : ℕ) (b : List ℕ) (s : ℕ) (h : Slots order group (s + 1) b) where
  pub is_near : order < 64 → s * group + 64 ≤ 8 * length b → Near order group b s
  is_near l m =
      let z = sizes order group h.shape in
      let n = near_shape order group h.shape l in
      let i = held order group (s + 1) b h s (omega arith) in
      record { order_least = omega arith; group_least = omega arith; group_most = n; inside = omega arith; small = omega arith }

  pub is_far : 64 ≤ order → Far order group b s
  is_far l =
      let z = sizes order group h.shape in
      let g = h.shape.group_is in
      let f = far_shape order group h.shape l in
      let i = held order group (s + 1) b h s (omega arith) in
      let quarter : order / 4 ≡ 16 * (order / 64) = omega arith in
      let eighths : group ≡ 8 * (10 * (order / 64)) = omega arith in
      record {
        numbers = f;
        numbers_least = omega arith;
        numbers_most = omega arith;
        bytes = omega arith;
        guard_least = omega arith;
        guard_most = omega arith;
        inside = omega arith;
        small = omega arith;
      }
