-- What passes every check and has no information bit set is zero. With a, b, c, d the four pieces of 16 parity bits, counted modulo 16, the four rows
-- of checks say, as sums modulo 2:
--
--     b(r) + c(r+13) + d(r) = 0,   a(r) + c(r) + d(r+7) = 0,   a(r+11) + b(r) + d(r+3) = 0,   a(r+14) + b(r+1) + c(r) = 0
--
-- so c(r) = d(r+1) + d(r+5), and d(r) = d(r+9) + d(r+11). That, put into itself three times, is d(r) = d(r+8) + d(r+8) = 0.
use mathlib.Core.Path.{◌≡◌, refl, sym, ap, ◌∙◌}
use mathlib.Core.Logic.{⊎_elim}
use Prim.Native.Nat.{ℕ, ◌+◌, ◌*◌, ◌/◌, ◌%◌, ◌≤◌, ◌<◌}
use native.Mathlib.Omega.{arith}
use lib.Bits.{bit_xor, xor_add_and, xor_zero_l}
use lib.Dec.{T, ltb, ltb→lt}
use Rattle.bits.proofs.Laws.Choice.{lt_or_le}
use Rattle.bits.proofs.Laws.Table.{all_below, below_all}
use Rattle.bits.specs.Pack.{Bits}
use Rattle.bits.specs.Count.{xor_sum}
use Rattle.bits.proofs.Laws.XorSum.{xor_sum_none}
use Rattle.ldpc.specs.Code.{matrix, columns, first_place, check_place, check_sum}

-- three numbers whose sum is even
abbrev Even : ℕ → ℕ → ℕ → Type 0
Even x y z = (x + y + z) % 2 ≡ 0

xor_even : (x y z : ℕ) → bit_xor (bit_xor x y) z ≡ 0 → Even x y z
xor_even x y z e = omega (arith, xor_add_and x y, xor_add_and (bit_xor x y) z)

-- a rule that is put into itself
twice : (f : ℕ → ℕ) (s t : ℕ) → ((r : ℕ) → Even (f r) (f (r + s)) (f (r + t))) → (r : ℕ) → Even (f r) (f (r + 2 * s)) (f (r + 2 * t))
twice f s t h r =
    let e : r + s + t ≡ r + t + s = omega arith in
    let p : r + s + s ≡ r + 2 * s = omega arith in
    let q : r + t + t ≡ r + 2 * t = omega arith in
    omega (arith, h r, h (r + s), h (r + t), ap f e, ap f p, ap f q)

-- the first five places of a check are information bits: a test that antt computes
low : (a : ℕ) → T (all_below 5 (λ n. ltb (first_place a n) 64)) → (n : ℕ) → n < 5 → first_place a n < 64
low a t n l = ltb→lt (first_place a n) 64 (below_all 5 (λ n. ltb (first_place a n) 64) t n l)

module _ (y : ℕ → ℕ) (bits : Bits y) (front : (j : ℕ) → j < 64 → y j ≡ 0) (passes : (c : ℕ) → c < 64 → check_sum y c ≡ 0) where
  -- bit r, modulo 16, of the 16 bits from `at` on
  abbrev piece : ℕ → ℕ → ℕ
  piece at r = y (at + r % 16)

  place_at : (a r n p : ℕ) → r < 16 → first_place a n ≡ p → check_place (16 * a + r) n ≡ p / 16 * 16 + (p + r) % 16
  unfolding check_place
  place_at a r n p l e =
      let q : (16 * a + r) / 16 ≡ a = omega arith in
      rw (q, e) (omega arith)

  -- a check adds the bits at its last three places, since the five before them are information bits
  three : (a p q s : ℕ) → a < 4 → T (all_below 5 (λ n. ltb (first_place a n) 64)) → first_place a 5 ≡ p → first_place a 6 ≡ q → first_place a 7 ≡ s
      → (r : ℕ) → Even (piece (p / 16 * 16) (p + r)) (piece (q / 16 * 16) (q + r)) (piece (s / 16 * 16) (s + r))
  unfolding check_sum xor_sum
  three a p q s h t ep eq es r =
      let m : r % 16 < 16 = omega arith in
      let c : ℕ = 16 * a + r % 16 in
      let f : ℕ → ℕ = λ n. y (check_place c n) in
      let none : xor_sum f 5 ≡ 0 = xor_sum_none f 5 (λ n k.
      let g = low a t n k in
      ap y (place_at a (r % 16) n (first_place a n) m refl) ∙ front (first_place a n / 16 * 16 + (first_place a n + r % 16) % 16) (omega arith)) in
      let at : (n v : ℕ) → first_place a n ≡ v → f n ≡ piece (v / 16 * 16) (v + r) = λ n v e.
      let i : v / 16 * 16 + (v + r % 16) % 16 ≡ v / 16 * 16 + (v + r) % 16 = omega arith in
      ap y (place_at a (r % 16) n v m e ∙ i) in
      let sum : bit_xor (bit_xor (f 5) (f 6)) (f 7) ≡ 0 =
      ap (λ (z : ℕ). bit_xor (bit_xor z (f 6)) (f 7)) (sym (ap (λ (z : ℕ). bit_xor z (f 5)) none ∙ xor_zero_l (f 5))) ∙ passes c (omega arith) in
      omega (arith, xor_even (f 5) (f 6) (f 7) sum, at 5 p ep, at 6 q eq, at 7 s es)

  abbrev a : ℕ → ℕ
  a = piece 64

  abbrev b : ℕ → ℕ
  b = piece 80

  abbrev c : ℕ → ℕ
  c = piece 96

  abbrev d : ℕ → ℕ
  d = piece 112

  turned : (at k l : ℕ) → k % 16 ≡ l % 16 → piece at k ≡ piece at l
  turned at k l e = ap (λ (m : ℕ). y (at + m)) e

  -- the rows of checks
  row0 : (r : ℕ) → Even (b r) (c (r + 13)) (d r)
  unfolding matrix columns first_place
  row0 r =
      omega (
        arith,
        three 0 80 109 112 (omega arith) tt refl refl refl r,
        turned 80 (80 + r) r (omega arith),
        turned 96 (109 + r) (r + 13) (omega arith),
        turned 112 (112 + r) r (omega arith),
      )

  row1 : (r : ℕ) → Even (a r) (c r) (d (r + 7))
  unfolding matrix columns first_place
  row1 r =
      omega (
        arith,
        three 1 64 96 119 (omega arith) tt refl refl refl r,
        turned 64 (64 + r) r (omega arith),
        turned 96 (96 + r) r (omega arith),
        turned 112 (119 + r) (r + 7) (omega arith),
      )

  row2 : (r : ℕ) → Even (a (r + 11)) (b r) (d (r + 3))
  unfolding matrix columns first_place
  row2 r =
      omega (
        arith,
        three 2 75 80 115 (omega arith) tt refl refl refl r,
        turned 64 (75 + r) (r + 11) (omega arith),
        turned 80 (80 + r) r (omega arith),
        turned 112 (115 + r) (r + 3) (omega arith),
      )

  row3 : (r : ℕ) → Even (a (r + 14)) (b (r + 1)) (c r)
  unfolding matrix columns first_place
  row3 r =
      omega (
        arith,
        three 3 78 81 96 (omega arith) tt refl refl refl r,
        turned 64 (78 + r) (r + 14) (omega arith),
        turned 80 (81 + r) (r + 1) (omega arith),
        turned 96 (96 + r) r (omega arith),
      )

  -- c by d, and d by itself
  c_by_d : (r : ℕ) → Even (c r) (d (r + 1)) (d (r + 5))
  c_by_d r =
      let e0 : r + 1 + 13 ≡ r + 14 = omega arith in
      omega (arith, row3 r, row1 (r + 14), row0 (r + 1), ap c e0, turned 112 (r + 14 + 7) (r + 5) (omega arith))

  d_late : (r : ℕ) → Even (d (r + 3)) (d (r + 12)) (d (r + 14))
  d_late r =
      let e0 : r + 11 + 1 ≡ r + 12 = omega arith in
      let e1 : r + 13 + 1 ≡ r + 14 = omega arith in
      let two : (c (r + 11) + d (r + 2) + b r + d (r + 3)) % 2 ≡ 0 =
      omega (arith, row2 r, row1 (r + 11), turned 112 (r + 11 + 7) (r + 2) (omega arith)) in
      let three : (c (r + 11) + d (r + 2) + c (r + 13) + d r + d (r + 3)) % 2 ≡ 0 = omega (arith, two, row0 r) in
      let four : (d (r + 2) + c (r + 13) + d (r + 3) + d (r + 12)) % 2 ≡ 0 =
      omega (arith, three, c_by_d (r + 11), ap d e0, turned 112 (r + 11 + 5) r (omega arith)) in
      omega (arith, four, c_by_d (r + 13), ap d e1, turned 112 (r + 13 + 5) (r + 2) (omega arith))

  d_by_d : (r : ℕ) → Even (d r) (d (r + 9)) (d (r + 11))
  d_by_d r =
      omega (
        arith,
        d_late (r + 13),
        turned 112 (r + 13 + 3) r (omega arith),
        turned 112 (r + 13 + 12) (r + 9) (omega arith),
        turned 112 (r + 13 + 14) (r + 11) (omega arith),
      )

  d_zero : (r : ℕ) → d r ≡ 0
  d_zero r =
      let far : (r : ℕ) → Even (d r) (d (r + 72)) (d (r + 88)) = twice d 36 44 (twice d 18 22 (twice d 9 11 d_by_d)) in
      omega (arith, far r, turned 112 (r + 72) (r + 88) (omega arith), bits (112 + r % 16))

  c_zero : (r : ℕ) → c r ≡ 0
  c_zero r = omega (arith, c_by_d r, d_zero (r + 1), d_zero (r + 5), bits (96 + r % 16))

  b_zero : (r : ℕ) → b r ≡ 0
  b_zero r = omega (arith, row0 r, c_zero (r + 13), d_zero r, bits (80 + r % 16))

  a_zero : (r : ℕ) → a r ≡ 0
  a_zero r = omega (arith, row1 r, c_zero r, d_zero (r + 7), bits (64 + r % 16))

  pub passing_zero : (j : ℕ) → j < 128 → y j ≡ 0
  passing_zero j l =
      ⊎_elim (λ (h : j < 64). front j h) (λ (h : 64 ≤ j).
      ⊎_elim (λ (k : j < 80). let e : j ≡ 64 + j % 16 = omega arith in ap y e ∙ a_zero j) (λ (k : 80 ≤ j).
      ⊎_elim (λ (m : j < 96). let e : j ≡ 80 + j % 16 = omega arith in ap y e ∙ b_zero j) (λ (m : 96 ≤ j).
      ⊎_elim (λ (n : j < 112). let e : j ≡ 96 + j % 16 = omega arith in ap y e ∙ c_zero j)
      (λ (n : 112 ≤ j). let e : j ≡ 112 + j % 16 = omega arith in ap y e ∙ d_zero j)
      (lt_or_le j 112)) (lt_or_le j 96)) (lt_or_le j 80)) (lt_or_le j 64)
