-- What passes every check is a codeword, and nothing else: the checks and the generator give one code.
use mathlib.Core.Path.{◌≡◌, refl, sym, ap, ap₂, ◌∙◌}
use mathlib.Core.Bool.{Bool, true, false}
use mathlib.Core.Logic.{⊎_elim}
use Prim.Native.Nat.{ℕ, ◌+◌, ◌-◌, ◌≤◌, ◌<◌}
use native.Mathlib.Omega.{arith}
use lib.Bits.{bit_xor}
use lib.Dec.{eqb, ltb, ltb→lt}
use borrow.Author.Tests.{eq-eqb, ne_eqb, eqb-true}
use Rattle.bits.proofs.Laws.Choice.{lt_or_le, eq_or_ne}
use Rattle.bits.proofs.Laws.Sum.{xor_bit, xor_same, same_xor}
use Rattle.bits.proofs.Laws.Table.{all_below, below_all}
use Rattle.bits.specs.Pack.{Bits, val}
use Rattle.bits.proofs.Laws.Pack.{val_same}
use Rattle.bits.proofs.Laws.Parts.{same_val}
use Rattle.bits.specs.Basics.{up_to}
use Rattle.bits.proofs.Laws.First.{all_pass, none_fails}
use Rattle.bits.proofs.Laws.XorSum.{xor_sum_same, xor_sum_plus}
use Rattle.ldpc.specs.Code.{parity_bit, codeword, matrix, columns, first_place, check_place, check_sum, is_codeword}
use Rattle.ldpc.proofs.Laws.Code.{codeword_first, codeword_behind, parity_bits, codeword_bits}
use Rattle.ldpc.proofs.Laws.Passing.{codeword_passes}
use Rattle.ldpc.proofs.Laws.Zero.{passing_zero}

-- ---- checks

place_lt : (c n : ℕ) → c < 64 → n < 8 → check_place c n < 128
unfolding matrix columns first_place check_place
place_lt c n lc ln =
    ltb→lt (check_place c n) 128
    (below_all 8 (λ n. ltb (check_place c n) 128) (below_all 64 (λ c. all_below 8 (λ n. ltb (check_place c n) 128)) tt c lc) n ln)

check_same : (x y : ℕ → ℕ) → ((j : ℕ) → j < 128 → x j ≡ y j) → (c : ℕ) → c < 64 → check_sum x c ≡ check_sum y c
unfolding check_sum
check_same x y h c l = xor_sum_same (λ n. x (check_place c n)) (λ n. y (check_place c n)) 8 (λ n k. h (check_place c n) (place_lt c n l k))

-- the check of a sum is the sum of the checks
check_plus : (x y : ℕ → ℕ) (c : ℕ) → check_sum (λ j. bit_xor (x j) (y j)) c ≡ bit_xor (check_sum x c) (check_sum y c)
unfolding check_sum
check_plus x y c = xor_sum_plus (λ n. x (check_place c n)) (λ n. y (check_place c n)) 8

-- a codeword is what no check refuses
pub all_checks : (x : ℕ → ℕ) → is_codeword x ≡ true → (c : ℕ) → c < 64 → check_sum x c ≡ 0
unfolding is_codeword
all_checks x e c l =
    let none : up_to (λ c. eqb (check_sum x c) 0) 0 64 ≡ 64 = eqb-true (up_to (λ c. eqb (check_sum x c) 0) 0 64) 64 e in
    eqb-true (check_sum x c) 0 (none_fails (λ c. eqb (check_sum x c) 0) 64 none c l)

pub no_check : (x : ℕ → ℕ) → ((c : ℕ) → c < 64 → check_sum x c ≡ 0) → is_codeword x ≡ true
unfolding is_codeword
no_check x h =
    eq-eqb (up_to (λ c. eqb (check_sum x c) 0) 0 64) 64 (all_pass (λ c. eqb (check_sum x c) 0) 64 (λ c l. eq-eqb (check_sum x c) 0 (h c l)))

-- ---- one code

-- what passes is the codeword of its first 64 bits: the sum of the two passes and begins with zeros
pub passing_codeword : (x : ℕ → ℕ) → Bits x → is_codeword x ≡ true → (j : ℕ) → j < 128 → x j ≡ codeword x j
passing_codeword x b e j l =
    let y : ℕ → ℕ = λ j. bit_xor (x j) (codeword x j) in
    same_xor (x j) (codeword x j)
    (passing_zero y
    (λ j. xor_bit (x j) (codeword x j) (b j) (codeword_bits x b j))
    (λ j h. xor_same (x j) (codeword x j) (sym (codeword_first x j h)))
    (λ c h. check_plus x (codeword x) c ∙ ap₂ bit_xor (all_checks x e c h) (codeword_passes x b c h))
    j l)

pub codeword_accepted : (x : ℕ → ℕ) → Bits x → ((j : ℕ) → j < 128 → x j ≡ codeword x j) → is_codeword x ≡ true
codeword_accepted x b h = no_check x (λ c l. check_same x (codeword x) h c l ∙ codeword_passes x b c l)

-- exactly the codewords: the last 64 bits are the parity bits of the first 64
pub codewords_exactly : (x : ℕ → ℕ) → Bits x
    → (is_codeword x ≡ true → (t : ℕ) → t < 64 → x (64 + t) ≡ parity_bit x t)
    × (((t : ℕ) → t < 64 → x (64 + t) ≡ parity_bit x t) → is_codeword x ≡ true)
codewords_exactly x b = (
  λ e t l.
      let d : 64 + t - 64 ≡ t = omega arith in
      passing_codeword x b e (64 + t) (omega arith) ∙ codeword_behind x (64 + t) (omega arith) ∙ ap (parity_bit x) d,
  λ h. codeword_accepted x b (λ j l.
      ⊎_elim
      (λ (k : j < 64). sym (codeword_first x j k))
      (λ (k : 64 ≤ j).
      let d : j ≡ 64 + (j - 64) = omega arith in
      ap x d ∙ h (j - 64) (omega arith) ∙ sym (codeword_behind x j k))
      (lt_or_le j 64)),
)

-- the same by one comparison of numbers
pub by_parity : (x : ℕ → ℕ) → Bits x → is_codeword x ≡ eqb (val (parity_bit x) 64) (val (λ t. x (64 + t)) 64)
by_parity x b =
    ⊎_elim
    (λ (e : v ≡ w).
    (codewords_exactly x b).1 (λ t l. sym (same_val (parity_bit x) (λ t. x (64 + t)) (parity_bits x b) (λ t. b (64 + t)) 64 e t l))
    ∙ sym (eq-eqb v w e))
    (λ (n : v ≡ w → ⊥). refused (is_codeword x) refl n ∙ sym (ne_eqb v w n))
    (eq_or_ne v w)
  where
    v : ℕ
    v = val (parity_bit x) 64

    w : ℕ
    w = val (λ t. x (64 + t)) 64

    refused : (t : Bool) → is_codeword x ≡ t → (v ≡ w → ⊥) → is_codeword x ≡ false
    refused true e n = absurd (n (val_same (parity_bit x) (λ t. x (64 + t)) 64 (λ t l. sym ((codewords_exactly x b).0 e t l))))
    refused false e n = e
