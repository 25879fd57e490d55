-- Every fifth bit of a number.
use mathlib.Core.Path.{◌≡◌, refl, sym, ap, ap₂, ◌∙◌}
use mathlib.Core.List.{List}
use mathlib.Core.Logic.{⊎_elim}
use Prim.Native.Nat.{ℕ, ◌+◌, ◌-◌, ◌*◌, ◌/◌, ◌%◌, ◌^◌, ◌<◌}
use native.Mathlib.Omega.{arith}
use native.Mathlib.Nat.{zero-div, mod-lt}
use lib.Bits.{bit_or, bit_and, bit_xor, or_shr, or_mod, and_shr, and_mod, and_mask, and_zero_r, or_zero_l, or_zero_r}
use lib.ListN.{length, set, length-set}
use lib.Seq.{get_or-set_same, get_or-set_other}
use lib.Pow.{shr-shr}
use lib.Dec.{eqb, eqb→eq}
use Rattle.bits.proofs.Laws.Choice.{eq_or_ne}
use Rattle.bits.proofs.Laws.Sum.{xor_digit, or_zero, same_xor}
use Rattle.bits.proofs.Laws.Table.{below_all}
use Rattle.pulses_rows.specs.Inner.{digit, five_of, Single, Fives}

or_digit : (a b j : ℕ) → digit (bit_or a b) j ≡ bit_or (digit a j) (digit b j)
or_digit a b j = ap (λ (x : ℕ). x % 2) (or_shr a b j) ∙ or_mod (a / 2 ^ j) (b / 2 ^ j) 1

and_digit : (a b j : ℕ) → digit (bit_and a b) j ≡ bit_and (digit a j) (digit b j)
and_digit a b j = ap (λ (x : ℕ). x % 2) (and_shr a b j) ∙ and_mod (a / 2 ^ j) (b / 2 ^ j) 1

digit_lt : (v j : ℕ) → digit v j < 2
digit_lt v j = mod-lt (v / 2 ^ j) (omega arith)

-- a shifted number
shr_digit : (v i j : ℕ) → digit (v / 2 ^ i) j ≡ digit v (j + i)
shr_digit v i j = ap (λ (x : ℕ). x % 2) (shr-shr v i j) ∙ ap (λ (n : ℕ). v / 2 ^ n % 2) (omega arith)

-- the two masks: a test, which antt computes
every_on : (k : ℕ) → k < 8 → digit 35468117025 (5 * k) ≡ 1
every_on k l = eqb→eq (digit 35468117025 (5 * k)) 1 (below_all 8 (λ k. eqb (digit 35468117025 (5 * k)) 1) tt k l)

every_off : (k : ℕ) → k < 8 → digit 35468117025 (5 * k + 1) ≡ 0
every_off k l = eqb→eq (digit 35468117025 (5 * k + 1)) 0 (below_all 8 (λ k. eqb (digit 35468117025 (5 * k + 1)) 0) tt k l)

next_on : (k : ℕ) → k < 8 → digit 70936234050 (5 * k + 1) ≡ 1
next_on k l = eqb→eq (digit 70936234050 (5 * k + 1)) 1 (below_all 8 (λ k. eqb (digit 70936234050 (5 * k + 1)) 1) tt k l)

next_off : (k : ℕ) → k < 8 → digit 70936234050 (5 * k) ≡ 0
next_off k l = eqb→eq (digit 70936234050 (5 * k)) 0 (below_all 8 (λ k. eqb (digit 70936234050 (5 * k)) 0) tt k l)

and_one : (d : ℕ) → d < 2 → bit_and d 1 ≡ d
and_one d h = and_mask d 1 ∙ omega arith

-- a masked digit, where the mask has a one and where it has none
masked : (x m j : ℕ) → digit m j ≡ 1 → digit (bit_and x m) j ≡ digit x j
masked x m j e = and_digit x m j ∙ ap (bit_and (digit x j)) e ∙ and_one (digit x j) (digit_lt x j)

unmasked : (x m j : ℕ) → digit m j ≡ 0 → digit (bit_and x m) j ≡ 0
unmasked x m j e = and_digit x m j ∙ ap (bit_and (digit x j)) e ∙ and_zero_r (digit x j)

-- ---- eight groups with a single pulse each

pub fives_single : (v k : ℕ) → k < 8
    → bit_and (bit_or (bit_or (bit_or (bit_xor (bit_xor (bit_xor (bit_xor (v / 2 ^ 4) (v / 2 ^ 3)) (v / 2 ^ 2)) (v / 2 ^ 1)) 35468117025) (bit_and (v / 2 ^ 4) (v / 2 ^ 3))) (bit_and (v / 2 ^ 2) (v / 2 ^ 1))) v) 35468117025 ≡ 0
    → Single (digit v (5 * k + 4)) (digit v (5 * k + 3)) (digit v (5 * k + 2)) (digit v (5 * k + 1)) (digit v (5 * k))
fives_single v k l e =
    let j : ℕ = 5 * k in
    let a : ℕ = v / 2 ^ 4 in
    let p : ℕ = v / 2 ^ 3 in
    let q : ℕ = v / 2 ^ 2 in
    let r : ℕ = v / 2 ^ 1 in
    let sum : ℕ = bit_xor (bit_xor (bit_xor a p) q) r in
    let x : ℕ = bit_xor sum 35468117025 in
    let all : ℕ = bit_or (bit_or (bit_or x (bit_and a p)) (bit_and q r)) v in
    let none : digit all j ≡ 0 = sym (masked all 35468117025 j (every_on k l)) ∙ ap (λ (n : ℕ). digit n j) e ∙ ap (λ (n : ℕ). n % 2) (zero-div (2 ^ j)) in
    let split = or_zero (bit_or (bit_or (digit x j) (digit (bit_and a p) j)) (digit (bit_and q r) j)) (digit v j)
    (sym (or_digit (bit_or (bit_or x (bit_and a p)) (bit_and q r)) v j ∙ ap (λ (n : ℕ). bit_or n (digit v j)) (or_digit (bit_or x (bit_and a p)) (bit_and q r) j ∙ ap (λ (n : ℕ). bit_or n (digit (bit_and q r) j)) (or_digit x (bit_and a p) j))) ∙ none) in
    let more = or_zero (bit_or (digit x j) (digit (bit_and a p) j)) (digit (bit_and q r) j) split.0 in
    let last = or_zero (digit x j) (digit (bit_and a p) j) more.0 in
    let each : digit sum j ≡ bit_xor (bit_xor (bit_xor (digit a j) (digit p j)) (digit q j)) (digit r j) =
    xor_digit (bit_xor (bit_xor a p) q) r j ∙ ap (λ (n : ℕ). bit_xor n (digit r j)) (xor_digit (bit_xor a p) q j ∙ ap (λ (n : ℕ). bit_xor n (digit q j)) (xor_digit a p j)) in
    let odd : digit sum j ≡ 1 = same_xor (digit sum j) 1 (sym (xor_digit sum 35468117025 j ∙ ap (bit_xor (digit sum j)) (every_on k l)) ∙ last.0) in
    let ea : digit a j ≡ digit v (j + 4) = shr_digit v 4 j in
    let ep : digit p j ≡ digit v (j + 3) = shr_digit v 3 j in
    let eq : digit q j ≡ digit v (j + 2) = shr_digit v 2 j in
    let er : digit r j ≡ digit v (j + 1) = shr_digit v 1 j in
    record {
      odd = rw (← ea, ← ep, ← eq, ← er) (sym each ∙ odd);
      first = rw (← ea, ← ep) (sym (and_digit a p j) ∙ last.1);
      second = rw (← eq, ← er) (sym (and_digit q r j) ∙ more.1);
      guard = split.1;
    }

-- ---- and their symbols

two_digits : (w j : ℕ) → w / 2 ^ j % 4 ≡ 2 * digit w (j + 1) + digit w j
two_digits w j =
    let x : ℕ = w / 2 ^ j in
    let e : x / 2 % 2 ≡ digit w (j + 1) = ap (λ (n : ℕ). n % 2) (shr-shr w j 1) in
    omega arith

pub fives_symbols : (v k : ℕ) → k < 8
    → five_of (bit_or (bit_and (bit_or (v / 2 ^ 1) v) 70936234050) (bit_and (bit_or (v / 2 ^ 3) (v / 2 ^ 1)) 35468117025)) k
    ≡ 2 * bit_or (digit v (5 * k + 2)) (digit v (5 * k + 1)) + bit_or (digit v (5 * k + 3)) (digit v (5 * k + 1))
fives_symbols v k l =
    let j : ℕ = 5 * k in
    let x : ℕ = bit_or (v / 2 ^ 1) v in
    let y : ℕ = bit_or (v / 2 ^ 3) (v / 2 ^ 1) in
    let h : ℕ = bit_and x 70936234050 in
    let g : ℕ = bit_and y 35468117025 in
    let high : digit (bit_or h g) (j + 1) ≡ bit_or (digit v (j + 2)) (digit v (j + 1)) =
    or_digit h g (j + 1)
    ∙ ap₂ bit_or (masked x 70936234050 (j + 1) (next_on k l) ∙ or_digit (v / 2 ^ 1) v (j + 1) ∙ ap (λ (n : ℕ). bit_or n (digit v (j + 1))) (shr_digit v 1 (j + 1) ∙ ap (digit v) (omega arith))) (unmasked y 35468117025 (j + 1) (every_off k l))
    ∙ or_zero_r (bit_or (digit v (j + 2)) (digit v (j + 1))) in
    let low : digit (bit_or h g) j ≡ bit_or (digit v (j + 3)) (digit v (j + 1)) =
    or_digit h g j
    ∙ ap₂ bit_or (unmasked x 70936234050 j (next_off k l)) (masked y 35468117025 j (every_on k l) ∙ or_digit (v / 2 ^ 3) (v / 2 ^ 1) j ∙ ap₂ bit_or (shr_digit v 3 j) (shr_digit v 1 j))
    ∙ or_zero_l (bit_or (digit v (j + 3)) (digit v (j + 1))) in
    two_digits (bit_or h g) j ∙ ap₂ (λ (m n : ℕ). 2 * m + n) high low

-- ---- laid in a row

pub fives_none : (row : List ℕ) (at w : ℕ) → Fives row at 0 w row
fives_none row at w = record { long = refl; earlier = λ i l. refl; here = λ k l. absurd (omega arith) }

pub fives_more : (before : List ℕ) (at k w : ℕ) (row : List ℕ) → k < 8 → at + k < length row → Fives before at k w row → Fives before at (k + 1) w (set row (at + k) (bit_and (w / 2 ^ (35 - 5 * k)) 3))
fives_more before at k w row few room f =
    let v : ℕ = bit_and (w / 2 ^ (35 - 5 * k)) 3 in
    let five : v ≡ five_of w (7 - k) = and_mask (w / 2 ^ (35 - 5 * k)) 2 ∙ ap (λ (n : ℕ). w / 2 ^ n % 4) (let e : 35 - 5 * k ≡ 5 * (7 - k) = omega arith in e) in
    record {
      long = length-set row (at + k) v ∙ f.long;
      earlier = λ i l. get_or-set_other row (at + k) i v 0 (λ e. omega arith) ∙ f.earlier i l;
      here = λ i l. ⊎_elim
          (λ (e : i ≡ k). rw e (get_or-set_same row (at + k) v 0 room ∙ five))
          (λ (e : i ≡ k → ⊥). get_or-set_other row (at + k) (at + i) v 0 (λ z. e (omega arith)) ∙ f.here i (omega arith))
          (eq_or_ne i k);
    }
