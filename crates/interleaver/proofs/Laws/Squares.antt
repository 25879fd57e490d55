-- The square term depends on the place modulo 36 alone, so the table has it.
use mathlib.Core.Path.{◌≡◌, sym, ap, ◌∙◌}
use mathlib.Core.List.{List}
use Prim.Native.Nat.{ℕ, ◌+◌, ◌*◌, ◌/◌, ◌%◌}
use native.Mathlib.Omega.{arith}
use native.Mathlib.Nat.{add-mul, mul-add, mul_assoc, mul_comm, mul-mul-mul_comm, add-mod-mod, add-mul-mod_self_right}
use lib.Dec.{T, eqb, eqb→eq}
use lib.ListN.{length, get_or}
use Rattle.bits.proofs.Laws.Table.{all_below, below_all}
use Rattle.sizes.specs.Sizes.{word_bits}
use Rattle.interleaver.specs.Interleaver.{source_bit, square_term, Squares}

-- the square of place c in row r, in rows of any width
pub square : (w r c : ℕ) → (w * r + c) * (w * r + c) ≡ w * w * (r * r) + 2 * w * (r * c) + c * c
square w r c =
    rw (mul-add (w * r + c) (w * r) c, add-mul (w * r) c (w * r), add-mul (w * r) c c)
    (omega (arith, mul-mul-mul_comm w r w r, mul_assoc w r c, mul_comm c (w * r), mul_assoc 2 w (r * c)))

-- the square term has period 36
pub square_36 : (j : ℕ) → square_term j ≡ square_term (j % 36)
square_36 j =
    let q : ℕ = j / 36 in
    let c : ℕ = j % 36 in
    let digits : j ≡ 36 * q + c = omega arith in
    let turns : ℕ = 18 * (q * q) + q * c in
    let e : 210 * ((36 * q + c) * (36 * q + c)) ≡ 210 * (c * c) + turns * word_bits = omega (arith, square 36 q c) in
    ap (λ (i : ℕ). square_term i) digits
    ∙ ap (λ (n : ℕ). n % word_bits) e
    ∙ add-mul-mod_self_right (210 * (c * c)) turns word_bits

-- so the constants are the formula's, at every j
pub constants : (table : List ℕ) → Squares table → (j : ℕ) → get_or table (j % 36) 0 ≡ square_term j
constants table h j = h.entry (j % 36) (omega arith) ∙ sym (square_36 j)

-- and the place with them is step 5's
pub source_squares : (table : List ℕ) → Squares table → (j : ℕ) → (11 * j + get_or table (j % 36) 0) % word_bits ≡ source_bit j
unfolding source_bit
source_squares table h j =
    ap (λ (s : ℕ). (11 * j + s) % word_bits) (constants table h j)
    ∙ add-mod-mod (11 * j) (210 * (j * j)) word_bits

-- a table is right where this test passes, which antt computes
pub table_right : (table : List ℕ) → length table ≡ 36 → T (all_below 36 (λ c. eqb (get_or table c 0) (square_term c))) → Squares table
table_right table e t = record {
  size = e;
  entry = λ c h. eqb→eq (get_or table c 0) (square_term c) (below_all 36 (λ c. eqb (get_or table c 0) (square_term c)) t c h);
}
