-- Each doubling makes every digit the sum of twice as many digits of b. In the end these are all the inputs up to its own, since above the 64 all are 0.
use mathlib.Core.Path.{◌≡◌, sym, ap, ap₂, ◌∙◌}
use mathlib.Core.Logic.{⊎_elim}
use Prim.Native.Nat.{ℕ, zero, suc, ◌+◌, ◌-◌, ◌*◌, ◌/◌, ◌%◌, ◌^◌, ◌≤◌, ◌<◌}
use native.Mathlib.Omega.{arith}
use native.Mathlib.Nat.{div-eq_of_lt, zero-div}
use lib.Bits.{bit_xor, xor_lt, xor_zero_r}
use lib.Dec.{eqb, eqb→eq, lit<}
use lib.Pow.{pow_mono, shr_le}
use Rattle.bits.proofs.Laws.Choice.{bit_cases}
use Rattle.bits.proofs.Laws.Sum.{xor_assoc, xor_digit}
use Rattle.bits.proofs.Laws.Table.{below_all}
use Rattle.bits.specs.Pack.{val, bit_of}
use Rattle.bits.proofs.Laws.Pack.{val_same, val_bits}
use Rattle.bits.specs.Count.{xor_sum}
use Rattle.bits.proofs.Laws.XorSum.{xor_sum_same, xor_sum_none}
use Rattle.bits.proofs.Laws.Doubling.{digit, Sums, xor_sum_first, sums_one, sums_twice}
use Rattle.accumulator.specs.Inner.{accumulate_from}
use Rattle.accumulator.proofs.summed_64.Goals as goal

abbrev doubled : ℕ → ℕ → ℕ
doubled x k = bit_xor x (x / 2 ^ k)

-- what the code computes, by its first six lines
abbrev whole : ℕ → ℕ
whole b = doubled (doubled (doubled (doubled (doubled (doubled b 1) 2) 4) 8) 16) 32

abbrev ones : ℕ
ones = 0xFFFFFFFFFFFFFFFF

whole-sums : (b : ℕ) → Sums (digit b) 1 64 (whole b)
whole-sums b =
    let f : ℕ → ℕ = digit b in
    sums_twice f 1 32 _
    (sums_twice f 1 16 _ (sums_twice f 1 8 _ (sums_twice f 1 4 _ (sums_twice f 1 2 _ (sums_twice f 1 1 _ (sums_one b 1))))))

doubled-lt : (x k : ℕ) → x < 2 ^ 64 → doubled x k < 2 ^ 64
doubled-lt x k h = xor_lt 64 x (x / 2 ^ k) h (let l = shr_le x k in omega arith)

whole-lt : (b : ℕ) → b < 2 ^ 64 → whole b < 2 ^ 64
whole-lt b h = doubled-lt _ 32 (doubled-lt _ 16 (doubled-lt _ 8 (doubled-lt _ 4 (doubled-lt _ 2 (doubled-lt b 1 h)))))

module _ (b last : ℕ) (h : b < 2 ^ 64) (l : last < 2) where
  above : (d : ℕ) → 64 ≤ d → digit b d ≡ 0
  above d g =
      let wide : 2 ^ 64 ≤ 2 ^ d = pow_mono g in
      let z : b / 2 ^ d ≡ 0 = div-eq_of_lt (omega arith) in
      ap (λ (v : ℕ). v % 2) z

  -- the sum of the digits from d on
  from : ℕ → ℕ
  from d = xor_sum (λ i. digit b (d + 1 * i)) 64

  from_next : (d : ℕ) → from d ≡ bit_xor (digit b d) (from (suc d))
  unfolding from
  from_next d =
      xor_sum_first (λ i. digit b (d + 1 * i)) 64 (above (d + 1 * 64) (omega arith))
      ∙ ap₂ bit_xor (ap (digit b) (omega arith))
      (xor_sum_same (λ i. digit b (d + 1 * suc i)) (λ i. digit b (suc d + 1 * i)) 64 (λ i k. ap (digit b) (omega arith)))

  from_is : (t : ℕ) → t < 64 → bit_xor (from (63 - t)) last ≡ accumulate_from last (bit_of b) t
  unfolding from accumulate_from
  from_is zero g =
      ap (λ (v : ℕ). bit_xor v last)
      (from_next 63
      ∙ ap (bit_xor (digit b 63)) (xor_sum_none (λ i. digit b (64 + 1 * i)) 64 (λ i k. above (64 + 1 * i) (omega arith)))
      ∙ xor_zero_r (digit b 63))
  from_is (suc t) g =
      let e : suc (63 - suc t) ≡ 63 - t = omega arith in
      ap (λ (v : ℕ). bit_xor v last) (from_next (63 - suc t) ∙ ap (λ (d : ℕ). bit_xor (digit b (63 - suc t)) (from d)) e)
      ∙ xor_assoc (digit b (63 - suc t)) (from (63 - t)) last
      ∙ ap (bit_xor (digit b (63 - suc t))) (from_is t (omega arith))

  -- all ones, or none
  flips : (t : ℕ) → t < 64 → bit_of (last * ones) t ≡ last
  flips t g =
      ⊎_elim
      (λ (e : last ≡ 0). rw e (ap (λ (v : ℕ). v % 2) (zero-div (2 ^ (63 - t)))))
      (λ (e : last ≡ 1). rw e (eqb→eq (bit_of ones t) 1 (below_all 64 (λ t. eqb (bit_of ones t) 1) tt t g)))
      (bit_cases last l)

  pub flips-lt : last * ones < 2 ^ 64
  flips-lt = ⊎_elim (λ (e : last ≡ 0). rw e (lit< tt)) (λ (e : last ≡ 1). rw e (lit< tt)) (bit_cases last l)

  pub right : bit_xor (whole b) (last * ones) ≡ val (accumulate_from last (bit_of b)) 64
  unfolding from
  right =
      sym (val_bits (bit_xor (whole b) (last * ones)) 64 (xor_lt 64 (whole b) (last * ones) (whole-lt b h) flips-lt))
      ∙ val_same (bit_of (bit_xor (whole b) (last * ones))) (accumulate_from last (bit_of b)) 64 (λ t g.
      xor_digit (whole b) (last * ones) (63 - t) ∙ ap₂ bit_xor (whole-sums b (63 - t)) (flips t g) ∙ from_is t g)

pub returns : goal.returns
returns c = right c.args.b c.args.last c.ranges.b.fits c.requires
