-- A symbol whose bits are in one byte: where m divides 8, they are the first of the two that `put_symbol` writes.
use mathlib.Core.Path.{◌≡◌, sym, ap, ◌∙◌}
use mathlib.Core.Bool.{true}
use mathlib.Core.List.{List}
use Prim.Native.Nat.{ℕ, ◌+◌, ◌-◌, ◌*◌, ◌/◌, ◌%◌, ◌^◌, ◌≤◌, ◌<◌}
use native.Mathlib.Omega.{arith}
use native.Mathlib.Nat.{mul_assoc, mul-mod_left, mul-mod_right, div-add-mod', add-mul-mod_self_right}
use lib.Bits.{bit_xor, bit_and, and_mask, xor_zero_r}
use lib.Dec.{eqb, eqb→eq}
use lib.ListN.{get_or, set}
use lib.Pow.{pow-add, shl-shr}
use lib.Seq.{set-get_or}
use borrow.Author.Tests.{eq-eqb}
use Rattle.bits.specs.Basics.{pick}
use Rattle.bits.proofs.Laws.Table.{all_below, below_all}
use Rattle.channel.proofs.Laws.Places.{same_apart}
use Rattle.channel.proofs.Two.{shifted, moved, moved_small, put_moved}
use Rattle.channel.specs.Inner.{Puts, Put}

-- what d divides n leaves of a remainder by n
pub mod_part : (n d z : ℕ) → n % d ≡ 0 → z % n % d ≡ z % d
mod_part n d z e =
    let a = div-add-mod' z n in
    let b : n / d * d ≡ n = let k = div-add-mod' n d in omega arith in
    let c : z / n * (n / d) * d ≡ z / n * n = mul_assoc (z / n) (n / d) d ∙ ap (λ (v : ℕ). z / n * v) b in
    let s : z % n + z / n * (n / d) * d ≡ z = omega arith in
    sym (add-mul-mod_self_right (z % n) (z / n * (n / d)) d) ∙ ap (λ (v : ℕ). v % d) s

-- no bit of a multiple of m is missing in 8 - m: a test of all cases, which antt computes
xor_last : (m r : ℕ) → m ≤ 8 → r < 8 → 8 % m ≡ 0 → r % m ≡ 0 → bit_xor (8 - m) r ≡ 8 - m - r
xor_last m r hm hr a b =
    eqb→eq (bit_xor (8 - m) r) (8 - m - r)
    (rw (eq-eqb (8 % m) 0 a, eq-eqb (r % m) 0 b) at (below_all 8 (λ r. pick (eqb (8 % m) 0) (pick (eqb (r % m) 0) (eqb (bit_xor (8 - m) r) (8 - m - r)) true) true)
    (below_all 9 (λ m. all_below 8 (λ r. pick (eqb (8 % m) 0) (pick (eqb (r % m) 0) (eqb (bit_xor (8 - m) r) (8 - m - r)) true) true)) tt m (omega arith)) r hr))

module _ (t m q : ℕ) (words : List ℕ) (puts : Puts t m q words) where
  abbrev r : ℕ
  r = m * t % 8

  -- where m divides 8 they are in one byte, and this is what the code shifts by
  module _ (whole : 8 % m ≡ 0) where
    even : r % m ≡ 0
    even = mod_part 8 m (m * t) whole ∙ mul-mod_right m t

    pub whole_within : m + r ≤ 8
    whole_within = let l : r < 8 = omega arith in let k : r + m ≤ 8 = same_apart m r 8 (even ∙ sym whole) l in omega arith

    pub shift : bit_xor (8 - m) r ≡ 8 - m - r
    shift = xor_last m r puts.bits_most (omega arith) whole even

  module _ (within : m + r ≤ 8) where
    part : moved t m q words puts ≡ q * 2 ^ (8 - m - r) * 2 ^ 8
    part =
        let e : 16 - m - r ≡ 8 - m - r + 8 = omega arith in
        shifted m q r puts.small (omega arith) ∙ ap (λ (v : ℕ). q * 2 ^ v) e ∙ ap (λ (v : ℕ). q * v) (pow-add 2 (8 - m - r) 8) ∙ sym (mul_assoc q (2 ^ (8 - m - r)) (2 ^ 8))

    first : moved t m q words puts / 2 ^ 8 ≡ q * 2 ^ (8 - m - r)
    first = ap (λ (v : ℕ). v / 2 ^ 8) part ∙ shl-shr (q * 2 ^ (8 - m - r)) 8

    second : bit_and (moved t m q words puts) 255 ≡ 0
    second = and_mask (moved t m q words puts) 8 ∙ ap (λ (v : ℕ). v % 2 ^ 8) part ∙ mul-mod_left (q * 2 ^ (8 - m - r)) (2 ^ 8)

    pub byte_small : q * 2 ^ (8 - m - r) < 256
    byte_small = let e = first in let l = moved_small t m q words puts in omega arith

    pub put_one : Put t m q words (set words (m * t / 8) (bit_xor (get_or words (m * t / 8) 0) (q * 2 ^ (8 - m - r))))
    put_one =
        let one : List ℕ = set words (m * t / 8) (bit_xor (get_or words (m * t / 8) 0) (q * 2 ^ (8 - m - r))) in
        let same : set one (m * t / 8 + 1) (bit_xor (get_or one (m * t / 8 + 1) 0) 0) ≡ one =
        ap (set one (m * t / 8 + 1)) (xor_zero_r (get_or one (m * t / 8 + 1) 0)) ∙ set-get_or one (m * t / 8 + 1) 0 in
        rw same at (rw (first, second) at (put_moved t m q words puts))
