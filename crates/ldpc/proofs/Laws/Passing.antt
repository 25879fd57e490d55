-- Every codeword passes every check: the checks are sums, so it is enough that the row of each information bit does, which antt computes.
use mathlib.Core.Path.{◌≡◌, refl, sym, ap, ◌∙◌}
use mathlib.Core.Logic.{⊎_elim}
use Prim.Native.Nat.{ℕ, ◌-◌, ◌*◌, ◌≤◌, ◌<◌}
use native.Mathlib.Omega.{arith}
use lib.Dec.{ltb, eqb, eqb→eq}
use borrow.Author.Tests.{lt-ltb, le-ltb, eq-eqb, ne_eqb}
use Rattle.bits.specs.Basics.{pick, bool}
use Rattle.bits.proofs.Laws.Choice.{lt_or_le}
use Rattle.bits.proofs.Laws.Table.{all_below, below_all}
use Rattle.bits.specs.Pack.{Bits}
use Rattle.bits.specs.Count.{xor_sum}
use Rattle.bits.proofs.Laws.XorSum.{xor_sum_same, xor_sum_none, xor_sum_one, xor_sum_swap, xor_sum_times}
use Rattle.ldpc.specs.Code.{rows, row_bit, parity_bit, codeword, matrix, columns, first_place, check_place, check_sum}
use Rattle.ldpc.proofs.Laws.Code.{codeword_first, codeword_behind}

-- row i of the generator, all 128 bits of it: the codeword of a frame whose only 1 is bit i
unfoldable pub generator : ℕ → ℕ → ℕ
generator i j = pick (ltb j 64) (bool (eqb i j)) (row_bit i (j - 64))

-- a codeword is the sum of the rows of its ones
pub codeword_sum : (u : ℕ → ℕ) (j : ℕ) → codeword u j ≡ xor_sum (λ i. u i * generator i j) 64
unfolding parity_bit generator
codeword_sum u j =
    ⊎_elim
    (λ (l : j < 64).
    let one : generator j j ≡ 1 = rw (lt-ltb j 64 l, eq-eqb j j refl) refl in
    codeword_first u j l
    ∙ sym (xor_sum_one (λ i. u i * generator i j) 64 j l (λ i k n.
    let none : generator i j ≡ 0 = rw (lt-ltb j 64 l, ne_eqb i j n) refl in
    rw none (omega arith))
    ∙ rw one (omega arith)))
    (λ (l : 64 ≤ j).
    codeword_behind u j l
    ∙ xor_sum_same (λ i. u i * row_bit i (j - 64)) (λ i. u i * generator i j) 64 (λ i k. sym (rw (le-ltb j 64 l) refl)))
    (lt_or_le j 64)

-- the test of each row by each check
row_passes : (i c : ℕ) → i < 64 → c < 64 → xor_sum (λ n. generator i (check_place c n)) 8 ≡ 0
unfolding xor_sum generator rows row_bit matrix columns first_place check_place
row_passes i c li lc =
    eqb→eq (xor_sum (λ n. generator i (check_place c n)) 8) 0
    (below_all 64 (λ c. eqb (xor_sum (λ n. generator i (check_place c n)) 8) 0)
    (below_all 64 (λ i. all_below 64 (λ c. eqb (xor_sum (λ n. generator i (check_place c n)) 8) 0)) tt i li) c lc)

pub codeword_passes : (u : ℕ → ℕ) → Bits u → (c : ℕ) → c < 64 → check_sum (codeword u) c ≡ 0
unfolding check_sum
codeword_passes u b c l =
    xor_sum_same (λ n. codeword u (check_place c n)) (λ n. xor_sum (λ i. u i * generator i (check_place c n)) 64) 8
    (λ n k. codeword_sum u (check_place c n))
    ∙ xor_sum_swap (λ i n. u i * generator i (check_place c n)) 64 8
    ∙ xor_sum_none (λ i. xor_sum (λ n. u i * generator i (check_place c n)) 8) 64 (λ i k.
    xor_sum_times (u i) (b i) (λ n. generator i (check_place c n)) 8
    ∙ ap (λ (s : ℕ). u i * s) (row_passes i c k l) ∙ omega arith)
